-- What is written is the front of the text, which is that of the file.
use Rattle.unpack_job.proofs.Front.{front_is}
use Rattle.unpack_job.proofs.unpack.Goals as goal

pub returns-in-Ok : goal.returns-in-Ok
returns-in-Ok g c =
    let a = c.in-Ok.ensures in
    λ h. rw (front_is c.args.file.now c.args.out.now c.unpack-answer.new.room c.in-Ok.size a.answer a.room) at (c.show_front.ensures h)
