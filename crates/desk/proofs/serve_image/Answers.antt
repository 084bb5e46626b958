-- The desk that is handed over was just opened from an image.
use Rattle.desk.specs.Opened.{with_image}
use Rattle.desk.proofs.Opened.{image_opened}
use Rattle.desk.proofs.serve_image.Goals as goal

pub answer-requires : goal.answer-requires
answer-requires c = with_image _ (image_opened _ _ _ _ (rw c.in-Ok.is at c.open_file.ensures.done))
