use Rattle.flatten.proofs.ArrayLaws.{thin_called, thin_lawful}
use Rattle.flatten.proofs.arrays.counted_records.Goals as goal

pub returns-then-not-may_have_too_many-clause-lawful : goal.returns-then-not-may_have_too_many-clause-lawful
returns-then-not-may_have_too_many-clause-lawful c = thin_lawful c.args.exts.now c.args.thin.items c.requires.records c.requires.thin

pub returns-then-not-may_have_too_many-clause-called : goal.returns-then-not-may_have_too_many-clause-called
returns-then-not-may_have_too_many-clause-called c = thin_called c.args.exts.now c.args.thin.items c.requires.thin

pub expanded-requires-clause-records : goal.expanded-requires-clause-records
expanded-requires-clause-records c = thin_lawful c.args.exts.now c.args.thin.items c.requires.records c.requires.thin

pub expanded-requires-clause-called : goal.expanded-requires-clause-called
expanded-requires-clause-called c = thin_called c.args.exts.now c.args.thin.items c.requires.thin
