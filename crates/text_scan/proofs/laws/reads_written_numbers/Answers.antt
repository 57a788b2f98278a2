use Rattle.text_scan.proofs.DecimalLemmas.{number_of-decimal, wide_of-decimal}
use Rattle.text_scan.proofs.WrittenLemmas.{IsWord-decimal}
use Rattle.text_scan.proofs.laws.reads_written_numbers.Goals as goal

pub returns-clause-word : goal.returns-clause-word
returns-clause-word c = IsWord-decimal

pub returns-clause-number : goal.returns-clause-number
returns-clause-number c = number_of-decimal

pub returns-clause-wide : goal.returns-clause-wide
returns-clause-wide c = wide_of-decimal
