-- The kinds: the template of each, and the numbers that name one.
-- Assumes nothing.
use Rattle.std.specs.Prelude.{ℕ, cond, eqb, Option, None, Some}
use Rattle.templates.specs.declared.kind.Kind.{Kind}
use Rattle.templates.specs.declared.kind.Kind.TheVariants.{Pyramid, Prism, Hexahedron}
use Rattle.templates.specs.Tables.{Template, hexahedron, prism, pyramid, is_kind}

abbrev pub template : Kind → Template
template Hexahedron = hexahedron
template Prism = prism
template Pyramid = pyramid

-- the kind that a number counts as
abbrev pub kind_of : ℕ → Kind
kind_of k = cond (eqb k 8) Hexahedron (cond (eqb k 6) Prism Pyramid)

-- the kind that has the number
abbrev pub kind_named : ℕ → Option Kind
kind_named k = cond (is_kind k) (Some (kind_of k)) None
