use Rattle.std.proofs.Common.{◌≡◌, ◌∷◌, ◌++◌, [], List, ℕ, Bool, not, if◌then◌else◌, sym, ap, subst, ◌∙◌}
use Rattle.std.specs.List.{list_any}
use Rattle.std.specs.Str.{bytes_eq}
use Rattle.finite_sets.specs.Lists.{Distinct}
use Rattle.name_index.proofs.Keys.{bytes_of, has_bytes, among_keys, inserted, still_distinct}
use Rattle.name_index.proofs.index.NameIndex.insert.Goals as goal

pub returns-clause-new : goal.returns-clause-new
returns-clause-new c =
    let keys = c.self.inside.names.keys in
    c.in_ok-added.ensures.added
    ∙ ap (λ (name : List ℕ). not (list_any (has_bytes name) keys)) c.in_ok-key.ensures.items
    ∙ ap not (among_keys c.args.name.now keys)
    ∙ ap (λ (names : List (List ℕ)). not (list_any (bytes_eq c.args.name.now) names)) c.self.view_is

pub invariant_of-self-2 : goal.invariant_of-self-2
invariant_of-self-2 c =
    let keys = c.self.inside.names.keys in
    let key = c.in_ok-key.key in
    let new =
    ap bytes_of (c.in_ok-added.ensures.keys ∙ ap (λ (name : List ℕ). if list_any
    (has_bytes name) keys then keys else keys ++ key ∷ []) c.in_ok-key.ensures.items)
    ∙ inserted c.args.name.now key keys c.in_ok-key.ensures.items in
    subst Distinct (sym new) (still_distinct c.args.name.now (bytes_of keys) c.self.invariant)

pub returns-clause-names : goal.returns-clause-names
returns-clause-names c =
    let keys = c.self.inside.names.keys in
    let key = c.in_ok-key.key in
    ap bytes_of (c.in_ok-added.ensures.keys ∙ ap (λ (name : List ℕ). if list_any
    (has_bytes name) keys then keys else keys ++ key ∷ []) c.in_ok-key.ensures.items)
    ∙ inserted c.args.name.now key keys c.in_ok-key.ensures.items
    ∙ ap (λ (names : List (List ℕ)). if list_any (bytes_eq c.args.name.now) names then names else names ++ c.args.name.now ∷ []) c.self.view_is
