use Rattle.full_names.proofs.Common.{◌≡◌, ◌+◌, ◌-◌, ◌<◌, ℕ, List, length, refl, sym, subst, ap, ◌∙◌, arith, slice_get, slice_get_read, same_Some}
use Rattle.full_names.proofs.Common.{In-slice_get, ComesFrom}
use Rattle.full_names.proofs.OriginLaws.{global_at, global_comes, local_full, local_comes}
use Rattle.full_names.proofs.names.FullNames.origin.Goals as goal

pub returns-then-number-len : goal.returns-then-number-len
returns-then-number-len c =
    let names = c.args.self.now in
    let name = c.index-name.result.now in
    let within : c.args.number < length names.globals.items = omega (arith, c.if-number-len.true, c.len.ensures, names.globals.ok.0) in
    let at = slice_get_read names.globals.items (length names.globals.items) c.args.number name refl within c.index-name.ensures in
    λ list full text at_text.
    let same : name.text.now ≡ text = same_Some name.text.now text (sym (global_at names c.requires.names list full c.args.number name at) ∙ at_text) in
    subst (λ (t : List ℕ). ComesFrom names t (record { element = name.element; node = name.node })) same
    (global_comes names c.requires.names name (In-slice_get names.globals.items c.args.number name at))

pub returns : goal.returns
returns c =
    let names = c.args.self.now in
    let local = c.local_name-local in
    let k = c.args.number - c.len-2.result in
    let sum : length names.globals.items + k ≡ c.args.number = omega (arith, c.if-number-len.false, c.len.ensures, c.len-2.ensures, names.globals.ok.0) in
    λ list full text at_text.
    let whole = local_full names c.requires.names k local.result.element local.result.name local.ensures list full in
    let same = same_Some _ text (sym (ap (slice_get list) (sym sum) ∙ whole) ∙ at_text) in
    subst (λ (t : List ℕ). ComesFrom names t (record { element = local.result.element; node = local.result.name.node })) same
    (local_comes names c.requires.names k local.result.element local.result.name local.ensures)
