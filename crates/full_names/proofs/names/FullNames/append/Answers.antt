use Rattle.full_names.proofs.Common.{◌≡◌, ◌+◌, ◌-◌, ◌<◌, ◌++◌, ℕ, List, length, refl, sym, ap, ◌∙◌, arith, slice_get, append_assoc, slice_get_read}
use Rattle.full_names.proofs.Common.{same_Some, ids_of, name_in, path_front, elements_in}
use Rattle.full_names.proofs.OriginLaws.{global_at, local_is, local_stands, local_full, local_path}
use Rattle.full_names.proofs.PathLaws.{path_text-front, on_appended}
use Rattle.full_names.proofs.QueryLaws.{is_tree}
use Rattle.full_names.proofs.TreeLaws.{within_tree}
use Rattle.full_names.proofs.names.FullNames.append.Goals as goal

pub returns-then-number-len : goal.returns-then-number-len
returns-then-number-len c =
    let names = c.args.self.now in
    let name = c.index.result.now in
    let within : c.args.number < length names.globals.items = omega (arith, c.if-number-len.true, c.len.ensures, names.globals.ok.0) in
    let at = slice_get_read names.globals.items (length names.globals.items) c.args.number name refl within c.index.ensures in
    let old = c.args.out.now.items in
    on_appended c.extend_from_slice.result old name.text.now c.extend_from_slice.new.self.items c.extend_from_slice.ensures.items
    (λ appended list full text at_text.
    appended
    ∙ ap (λ (t : List ℕ). old ++ t) (same_Some name.text.now text (sym (global_at names c.requires.names list full c.args.number name at) ∙ at_text)))

pub append_path-requires-clause-tree : goal.append_path-requires-clause-tree
append_path-requires-clause-tree c = record { elements = elements_in c.args.self.now; is = is_tree c.args.self.now c.requires.names }

pub append_path-requires-clause-number : goal.append_path-requires-clause-number
append_path-requires-clause-number c =
    let names = c.args.self.now in
    let local = c.local_name-local in
    let k = c.args.number - c.len-2.result in
    let element = (local_is names c.requires.names k local.result.element local.result.name local.ensures).element in
    within_tree names.exts.now (elements_in names) names.tree.now (is_tree names c.requires.names) local.result.element element
    (local_stands names c.requires.names k local.result.element local.result.name local.ensures)

pub returns : goal.returns
returns c =
    let names = c.args.self.now in
    let are = c.requires.names in
    let local = c.local_name-local in
    let own = local.result.name in
    let k = c.args.number - c.len-2.result in
    let sum : length names.globals.items + k ≡ c.args.number = omega (arith, c.if-number-len.false, c.len.ensures, c.len-2.ensures, names.globals.ok.0) in
    let element = (local_is names are k local.result.element own local.ensures).element in
    let path = c.in_ok-append_path.ensures (elements_in names) (is_tree names are) element
    (local_stands names are k local.result.element own local.ensures) in
    let front = path_front (ids_of element) in
    let old = c.args.out.now.items in
    on_appended c.extend_from_slice-2.result c.append_path.new.out.items own.text.now c.extend_from_slice-2.new.self.items c.extend_from_slice-2.ensures.items
    (λ appended list full text at_text.
    let whole = local_full names are k local.result.element own local.ensures list full in
    let same = same_Some (name_in element own.text.now) text (sym (ap (slice_get list) (sym sum) ∙ whole) ∙ at_text) in
    appended ∙ ap (λ (t : List ℕ). t ++ own.text.now) path ∙ append_assoc old front own.text.now
    ∙ ap (λ (t : List ℕ). old ++ t)
    (sym (path_text-front (ids_of element) own.text.now) ∙ sym (local_path names are k local.result.element own local.ensures) ∙ same))
