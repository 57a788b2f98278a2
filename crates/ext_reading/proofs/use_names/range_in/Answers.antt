use Rattle.ext_reading.proofs.Common.{◌≡◌, ◌∙◌, sym, Option, Some, ElementRange, IsElementRange, range_of}
use Rattle.ext_reading.proofs.Outcomes.{if_ok-more}
use Rattle.ext_reading.proofs.UseNames.{range_of-is}
use Rattle.ext_reading.proofs.use_names.range_in.Goals as goal

pub returns-in-Some-Two-clause-formed : goal.returns-in-Some-Two-clause-formed
returns-in-Some-Two-clause-formed c =
    let path = c.args.path.now in
    if_ok-more (λ (range : Option ElementRange). range ≡ range_of path)
    (λ (range : Option ElementRange). (one : ElementRange) → range ≡ Some one → IsElementRange one) c.range_of.result
    (λ range is. λ one e. (range_of-is path one (sym is ∙ e)).0) c.range_of.ensures
