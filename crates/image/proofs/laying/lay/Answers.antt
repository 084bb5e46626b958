-- `lay` meets its contract: the records of the counter and the rule, then each table behind the one before.
use native.Mathlib.Omega.{arith}
use Rattle.image.specs.Image.{image_of}
use Rattle.image.proofs.Puts.{laid_laid}
use Rattle.image.proofs.laying.lay.Goals as goal

pub returns : goal.returns
unfolding image_of
returns c =
    let h = c.requires in
    let to-users = laid_laid c.lay_head-head.ensures c.lay_users-users.ensures (omega arith) in
    let to-rooms = laid_laid to-users c.lay_rooms-rooms.ensures (omega arith) in
    let to-scripts = laid_laid to-rooms c.lay_scripts-scripts.ensures (omega arith) in
    let to-sessions = laid_laid to-scripts c.lay_sessions-sessions.ensures (omega arith) in
    laid_laid to-sessions c.lay_drafts.ensures (omega arith)
