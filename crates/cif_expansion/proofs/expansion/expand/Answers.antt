use Rattle.cif_expansion.proofs.Common.{subst, size_of}
use Rattle.std.specs.Prelude.{Option, MatchOption}
use Rattle.cif_expansion.specs.declared.limits.CifLimit.{CifLimit}
use Rattle.cif_expansion.specs.Limits.{IsFirstPast, IsWithinLimits}
use Rattle.cif_expansion.proofs.StripLaws.{expanded}
use Rattle.cif_expansion.proofs.expansion.expand.Goals as goal

pub returns : goal.returns
returns c =
    let size = size_of c.args.cif.now in
    let within : IsWithinLimits size =
    subst (λ (passed : Option CifLimit). MatchOption passed (IsWithinLimits size) (λ limit. IsFirstPast limit size)) c.in_default.is c.in_ok-limit.ensures in
    expanded c.args.cif.now c.in_ok-boxes.boxes.items c.layers.result.now c.in_ok-strips_of_layers.field-0.items within c.in_ok-boxes.ensures.drawn
    c.layers.ensures c.in_ok-strips_of_layers.ensures.names c.in_ok-strips_of_layers.ensures.strips
