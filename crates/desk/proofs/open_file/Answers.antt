-- `open_file` meets its contract.
use borrow.Author.Tests.{lt-ltb, le-ltb}
use Rattle.desk.specs.Opened.{file_by}
use Rattle.desk.proofs.open_file.Goals as goal

pub returns-then-bytes-gt65536-clause-done : goal.returns-then-bytes-gt65536-clause-done
unfolding file_by
returns-then-bytes-gt65536-clause-done c = rw (lt-ltb 65536 _ c.if-bytes-gt65536.true)

pub returns-clause-done : goal.returns-clause-done
unfolding file_by
returns-clause-done c = rw (le-ltb 65536 _ c.if-bytes-gt65536.false) c.open_desk.ensures.done
