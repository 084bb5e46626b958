use Rattle.std.proofs.Common.{sym, rules}
use Rattle.desk.proofs.Folders.{after_last}
use Rattle.desk.proofs.names.folder_length.Goals as goal

pub returns-in-Some-clause-value : goal.returns-in-Some-clause-value
returns-in-Some-clause-value c = sym (after_last c.args.name.now c.in-Some.i (search rules) (search rules) (search rules))
