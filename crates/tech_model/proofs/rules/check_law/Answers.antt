use Rattle.tech_model.proofs.Common.{◌∙◌, sym}
use Rattle.tech_model.proofs.RuleLaws.{break_types}
use Rattle.tech_model.proofs.rules.check_law.Goals as goal

pub type_name-requires : goal.type_name-requires
type_name-requires c =
    (break_types c.args.tech.now c.as_slice.result.now ((c.in-Some.s, c.in-Some.wide_s), (c.in-Some.t, c.in-Some.wide_t))
    (c.as_slice.ensures.value ∙ c.in_ok-found.ensures) (sym c.first_break.ensures ∙ c.in-Some.is)).0.0

pub type_name-requires-in-Some : goal.type_name-requires-in-Some
type_name-requires-in-Some c =
    (break_types c.args.tech.now c.as_slice.result.now ((c.in-Some.s, c.in-Some.wide_s), (c.in-Some.t, c.in-Some.wide_t))
    (c.as_slice.ensures.value ∙ c.in_ok-found.ensures) (sym c.first_break.ensures ∙ c.in-Some.is)).1.0

pub type_name-requires-in-Some-2 : goal.type_name-requires-in-Some-2
type_name-requires-in-Some-2 c =
    (break_types c.args.tech.now c.as_slice.result.now ((c.in-Some.s, c.in-Some.wide_s), (c.in-Some.t, c.in-Some.wide_t))
    (c.as_slice.ensures.value ∙ c.in_ok-found.ensures) (sym c.first_break.ensures ∙ c.in-Some.is)).0.1

pub type_name-requires-in-Some-3 : goal.type_name-requires-in-Some-3
type_name-requires-in-Some-3 c =
    (break_types c.args.tech.now c.as_slice.result.now ((c.in-Some.s, c.in-Some.wide_s), (c.in-Some.t, c.in-Some.wide_t))
    (c.as_slice.ensures.value ∙ c.in_ok-found.ensures) (sym c.first_break.ensures ∙ c.in-Some.is)).1.1
