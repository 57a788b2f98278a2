use Rattle.cell_library.proofs.Common.{◌≡◌, ◌∷◌, ◌++◌, [], List, ℕ, sym, ap, subst, ◌∙◌, None, Vec, bytes_eq, Global, insert_entry, Content, Held}
use Rattle.cell_library.proofs.Common.{held_in, held_of, position_of, AreKept}
use Rattle.cell_library.proofs.ContentLaws.{content_added, held_more}
use Rattle.cell_library.proofs.KeptContents.{kept_more}
use Rattle.cell_library.proofs.contents.Contents.push.Goals as goal

-- a content whose name no cell has comes last under a key with its name
comes_last : (contents : List Held) (entries : List (Vec ℕ Global × Content)) (key : Vec ℕ Global) (content : Content) → held_in entries ≡ contents
    → AreKept entries → key.items ≡ content.name → position_of content.name contents ≡ None
    → insert_entry (λ k other. bytes_eq k.items other.items) entries key content ≡ entries ++ (key, content) ∷ []
comes_last contents entries key content seen kept key_is unknown =
    content_added _ entries key content (λ other. ap (λ (n : List ℕ). bytes_eq n other.items) key_is) kept.names
    (ap (position_of content.name) seen ∙ unknown)

pub invariant_of-self-2 : goal.invariant_of-self-2
invariant_of-self-2 c =
    let key_is = c.in_ok-key.ensures.items ∙ c.bytes.ensures in
    let new = c.in_ok-insert.ensures.entries ∙ comes_last _ _ c.in_ok-key.key _ c.self.view_is c.self.invariant key_is c.requires in
    subst AreKept (sym new) (kept_more _ c.in_ok-key.key c.args.content key_is c.sound.ensures c.self.invariant)

pub returns-clause-added : goal.returns-clause-added
returns-clause-added c =
    let key_is = c.in_ok-key.ensures.items ∙ c.bytes.ensures in
    let new = c.in_ok-insert.ensures.entries ∙ comes_last _ _ c.in_ok-key.key _ c.self.view_is c.self.invariant key_is c.requires in
    ap held_in new ∙ held_more c.self.inside.entries.entries c.in_ok-key.key c.args.content
    ∙ ap (λ (contents : List Held). contents ++ held_of c.args.content ∷ []) c.self.view_is
