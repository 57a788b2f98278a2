-- Sim texts that go on line by line.
use Rattle.sim_records.proofs.Common.{◌≡◌, ◌<◌, ◌≤◌, ℕ, ℤ, List, [], ◌∷◌, ◌++◌, length, map, take, drop, sym, ap, subst, ◌∙◌, arith, flat_map}
use Rattle.sim_records.proofs.Common.{Circuit, NodeRec, FetRec, TermRec, SimFet, LONGEST_TEXT, lines_saying, saying_alias, saying_cap, sim_text}
use Rattle.sim_records.proofs.Common.{whole_line_saying, SimDraft, aliases_of, cap_of, sim_of, switches_among, switches_from, switches_of}
use Rattle.sim_records.proofs.Common.{MOST_SWITCHES, AddsSwitches, CountsAsFar, GoesOnBy, IsAsFar, aliases_text, caps_text, switches_text}
use Rattle.std.proofs.Common.{◌+◌, get_or, inl, inr, refl}
use Rattle.std.proofs.lemmas.Grind.{flat_map-append}
use Rattle.std.proofs.lemmas.List.{append_assoc, append-nil, drop_more, drop_all, flat_map_more}
use Rattle.sim_text.specs.declared.files.SimLine.TheVariants.{Header, Fet}
use Rattle.sim_text.proofs.AppendedText.{sim_text-parts}
use Rattle.sim_records.specs.Drafts.{IsDraftOf, node_aliases_text}
use Rattle.sim_records.proofs.Additions.{add_image, add_images}

-- ---- texts

-- a text goes on by nothing
pub goes_nowhere : (text : List ℕ) → GoesOnBy [] text text
goes_nowhere text whole far = subst (λ (w : List ℕ). IsAsFar w text) (sym (append-nil whole)) far

-- and by one part behind the other
pub goes_on : (a b old mid new : List ℕ) → GoesOnBy a old mid → GoesOnBy b mid new → GoesOnBy (a ++ b) old new
goes_on a b old mid new first second whole far = subst (λ (w : List ℕ). IsAsFar w new) (append_assoc whole a b) (second (whole ++ a) (first whole far))

-- by the lines of one more thing
pub goes_on_one : {X : Type 0} (f : X → List ℕ) (xs : List X) (k : ℕ) (x : X) (old mid new : List ℕ) → k < length xs → x ≡ get_or xs k x
    → GoesOnBy (flat_map f (take k xs)) old mid → GoesOnBy (f x) mid new → GoesOnBy (flat_map f (take (k + 1) xs)) old new
goes_on_one f xs k x old mid new less is was more =
    subst (λ (text : List ℕ). GoesOnBy text old new) (add_images f xs k x less is) (goes_on (flat_map f (take k xs)) (f x) old mid new was more)

-- a text that is short enough is whole
pub short_is_whole : (whole text : List ℕ) → IsAsFar whole text → length text ≤ LONGEST_TEXT → text ≡ whole
short_is_whole whole text (inl is) short = is
short_is_whole whole text (inr long) short = absurd (omega (arith, long.0, short))

-- one that is too long is so whole
pub long_is_long : (whole text : List ℕ) → IsAsFar whole text → LONGEST_TEXT < length text → LONGEST_TEXT < length whole
long_is_long whole text (inl is) long = subst (λ (t : List ℕ). LONGEST_TEXT < length t) is long
long_is_long whole text (inr both) long = both.1

-- ---- switches

-- what is not too many is the number
pub few_are_counted : (many count : ℕ) → CountsAsFar many count → count ≤ MOST_SWITCHES → count ≡ many
few_are_counted many count (inl is) few = is
few_are_counted many count (inr past) few = absurd (omega (arith, past.0, few))

-- the lines of one more switch
pub one_line : (tech : List ℕ) (switches : List SimFet) (switch : SimFet)
    → switches_text tech switches ++ whole_line_saying (Fet switch) ≡ switches_text tech (switches ++ switch ∷ [])
one_line tech switches switch =
    append_assoc (whole_line_saying (Header tech)) (lines_saying Fet switches) (whole_line_saying (Fet switch))
    ∙ ap (λ (t : List ℕ). whole_line_saying (Header tech) ++ t) (flat_map_more (λ (x : SimFet). whole_line_saying (Fet x)) [] switches switch)

-- a draft with no switch more
pub adds_none : (draft : SimDraft) → AddsSwitches [] draft draft
adds_none draft tech switches is = subst (λ (l : List SimFet). IsDraftOf tech l draft) (sym (append-nil switches)) is

-- some switches behind others
pub adds_both : (a b : List SimFet) (old mid new : SimDraft) → AddsSwitches a old mid → AddsSwitches b mid new → AddsSwitches (a ++ b) old new
adds_both a b old mid new first second tech switches is =
    subst (λ (l : List SimFet). IsDraftOf tech l new) (append_assoc switches a b) (second tech (switches ++ a) (first tech switches is))

-- that of one more thing
pub adds_one : {X : Type 0} (f : X → SimFet) (xs : List X) (k : ℕ) (x : X) (old mid new : SimDraft) → k < length xs → x ≡ get_or xs k x
    → AddsSwitches (map f (take k xs)) old mid → AddsSwitches (f x ∷ []) mid new → AddsSwitches (map f (take (k + 1) xs)) old new
adds_one f xs k x old mid new less is was more =
    subst (λ (l : List SimFet). AddsSwitches l old new) (add_image f [] xs k x less is)
    (adds_both (map f (take k xs)) (f x ∷ []) old mid new was more)

-- those from one more terminal, where those among the terminals left are what is left
pub adds_rest : (fet : FetRec) (terminals : List TermRec) (k : ℕ) (one : TermRec) (others : List TermRec) (old mid new : SimDraft) → k < length terminals
    → one ≡ get_or terminals k one → others ≡ drop (k + 1) terminals
    → ((last : SimDraft) → AddsSwitches (switches_among fet (drop k terminals)) mid last → AddsSwitches (switches_among fet terminals) old last)
    → AddsSwitches (switches_from fet one others) mid new → (last : SimDraft) → AddsSwitches (switches_among fet (drop (k + 1) terminals)) new last
    → AddsSwitches (switches_among fet terminals) old last
adds_rest fet terminals k one others old mid new less is are was first last more =
    let rest = drop (k + 1) terminals in
    let left : drop k terminals ≡ one ∷ rest = drop_more terminals k one less ∙ ap (λ (x : TermRec). x ∷ rest) (sym is) in
    was last (subst (λ (l : List TermRec). AddsSwitches (switches_among fet l) mid last) (sym left)
    (adds_both (switches_from fet one rest) (switches_among fet rest) mid new last
    (subst (λ (l : List TermRec). AddsSwitches (switches_from fet one l) mid new) are first) more))

-- none are left at the end
pub adds_all : (fet : FetRec) (terminals : List TermRec) (k : ℕ) (old new : SimDraft) → length terminals ≤ k
    → ((last : SimDraft) → AddsSwitches (switches_among fet (drop k terminals)) new last → AddsSwitches (switches_among fet terminals) old last)
    → AddsSwitches (switches_among fet terminals) old new
adds_all fet terminals k old new past was =
    was new (subst (λ (l : List TermRec). AddsSwitches (switches_among fet l) new new) (sym (drop_all k terminals past)) (adds_none new))

-- ---- the whole text

lines_of_images : {X Y : Type 0} (f : Y → List ℕ) (g : X → Y) (xs : List X) → flat_map f (map g xs) ≡ flat_map (λ x. f (g x)) xs
lines_of_images f g [] = refl
lines_of_images f g (x ∷ xs) = ap (λ (rest : List ℕ). f (g x) ++ rest) (lines_of_images f g xs)

aliases_are : (nodes : List NodeRec) → lines_saying saying_alias (flat_map aliases_of nodes) ≡ aliases_text nodes
aliases_are [] = refl
aliases_are (node ∷ nodes) =
    let line = λ (pair : List ℕ × List ℕ). whole_line_saying (saying_alias pair) in
    flat_map-append line (aliases_of node) (flat_map aliases_of nodes)
    ∙ ap (λ (first : List ℕ). first ++ lines_saying saying_alias (flat_map aliases_of nodes))
    (lines_of_images line (λ (alias : List ℕ). (node.name, alias)) node.aliases)
    ∙ ap (λ (rest : List ℕ). node_aliases_text node ++ rest) (aliases_are nodes)

-- the lines of switches, of capacitances and of aliases are the text
pub whole_text : (circuit : Circuit) (nodes : List NodeRec) → circuit.nodes ≡ nodes
    → (switches_text circuit.tech (flat_map switches_of circuit.fets) ++ caps_text nodes) ++ aliases_text nodes ≡ sim_text (sim_of circuit)
whole_text circuit nodes are =
    let header = whole_line_saying (Header circuit.tech) in
    let lines = lines_saying Fet (flat_map switches_of circuit.fets) in
    let caps = lines_of_images (λ (cap : List ℕ × ℤ). whole_line_saying (saying_cap cap)) cap_of circuit.nodes in
    append_assoc (switches_text circuit.tech (flat_map switches_of circuit.fets)) (caps_text nodes) (aliases_text nodes)
    ∙ append_assoc header lines (caps_text nodes ++ aliases_text nodes)
    ∙ ap (λ (l : List NodeRec). header ++ (lines ++ (caps_text l ++ aliases_text l))) (sym are)
    ∙ ap (λ (c : List ℕ). header ++ (lines ++ (c ++ aliases_text circuit.nodes))) (sym caps)
    ∙ ap (λ (a : List ℕ). header ++ (lines ++ (lines_saying saying_cap (map cap_of circuit.nodes) ++ a))) (sym (aliases_are circuit.nodes))
    ∙ sym (sim_text-parts (sim_of circuit))

-- a draft that goes on by the lines of nodes has the text as far as it goes
pub draft_is_as_far : (circuit : Circuit) (nodes : List NodeRec) → circuit.nodes ≡ nodes → (draft : SimDraft) (mid new : List ℕ)
    → IsDraftOf circuit.tech (flat_map switches_of circuit.fets) draft → GoesOnBy (caps_text nodes) draft.text.items mid
    → GoesOnBy (aliases_text nodes) mid new → IsAsFar (sim_text (sim_of circuit)) new
draft_is_as_far circuit nodes are draft mid new is caps aliases =
    let switches = switches_text circuit.tech (flat_map switches_of circuit.fets) in
    subst (λ (w : List ℕ). IsAsFar w new) (whole_text circuit nodes are) (aliases (switches ++ caps_text nodes) (caps switches is.text))
