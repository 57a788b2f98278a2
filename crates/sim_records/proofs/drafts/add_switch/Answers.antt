use Rattle.sim_records.proofs.Common.{◌≡◌, ℕ, ℤ, List, [], ◌∷◌, length, sym, subst, rules, to_z, of_z, length-append, w128, to_z-of_z}
use Rattle.sim_records.proofs.Common.{whole_line_saying, switch_between, CountsAsFar, GoesOnBy, IsAsFar, switches_text}
use Rattle.std.proofs.lemmas.Result.{on_ok_weaker}
use Rattle.sim_text.specs.declared.files.SimLine.TheVariants.{Fet}
use Rattle.sim_records.proofs.DraftLaws.{one_line}
use Rattle.sim_records.proofs.drafts.add_switch.Goals as goal

pub returns : goal.returns
returns c =
    let of_lengths = switch_between c.args.fet.now c.args.source.now c.args.drain.now in
    let switch = of_lengths c.args.lengths in
    let same : to_z w128 (of_z w128 c.args.lengths) ≡ c.args.lengths = to_z-of_z w128 c.args.lengths (search rules) in
    let new = c.write_switch.new.text.items in
    let G : ℤ → Type 0 = λ z. GoesOnBy (whole_line_saying (Fet (of_lengths z))) c.args.draft.now.text.items new in
    on_ok_weaker c.write_switch.result
    (λ goes tech switches is. record {
      text = subst (λ (w : List ℕ). IsAsFar w new) (one_line tech switches switch) (subst G same goes (switches_text tech switches) is.text);
      count = subst (λ (n : ℕ). CountsAsFar n c.counted-draft.result) (sym (length-append switches (switch ∷ [])))
          (c.counted-draft.ensures (length switches) is.count);
    })
    c.write_switch.ensures
