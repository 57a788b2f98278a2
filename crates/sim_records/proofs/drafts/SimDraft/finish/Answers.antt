use Rattle.sim_records.proofs.Common.{◌≤◌, ◌<◌, length, arith, rules, LONGEST_TEXT, sim_text, MOST_SWITCHES, sim_of}
use Rattle.std.proofs.Common.{refl, inr}
use Rattle.sim_records.proofs.DraftLaws.{draft_is_as_far, long_is_long, short_is_whole, few_are_counted}
use Rattle.sim_records.proofs.drafts.SimDraft.finish.Goals as goal

pub returns-then-len-gt-LONGEST_TEXT-clause-fault : goal.returns-then-len-gt-LONGEST_TEXT-clause-fault
returns-then-len-gt-LONGEST_TEXT-clause-fault c circuit nodes is =
    let far = draft_is_as_far circuit c.args.nodes.now nodes c.args.self c.write_caps.new.text.items c.write_aliases.new.text.items is
    c.in_ok-write_caps.ensures c.in_ok-write_aliases.ensures in
    let few : c.args.self.switches ≤ MOST_SWITCHES = omega (arith, c.if-switches-gt-MOST_SWITCHES.false) in
    let count = few_are_counted _ c.args.self.switches is.count few in
    let long : LONGEST_TEXT < length c.write_aliases.new.text.items = search rules in
    inr (inr (omega (arith, count, few), (refl, long_is_long (sim_text (sim_of circuit)) c.write_aliases.new.text.items far long)))

pub returns-clause-text : goal.returns-clause-text
returns-clause-text c circuit nodes is =
    let far = draft_is_as_far circuit c.args.nodes.now nodes c.args.self c.write_caps.new.text.items c.write_aliases.new.text.items is
    c.in_ok-write_caps.ensures c.in_ok-write_aliases.ensures in
    let few : c.args.self.switches ≤ MOST_SWITCHES = omega (arith, c.if-switches-gt-MOST_SWITCHES.false) in
    let short : length c.write_aliases.new.text.items ≤ LONGEST_TEXT = search rules in (
      short_is_whole (sim_text (sim_of circuit)) c.write_aliases.new.text.items far short,
      few_are_counted _ c.args.self.switches is.count few,
    )
