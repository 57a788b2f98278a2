-- Each line that is taken keeps a draft sound.
use Rattle.tech_draft.proofs.Common.{◌≡◌, ◌<◌, ◌≤◌, ◌==◌, ℕ, true, false, List, [], ◌∷◌, ◌++◌, length, refl, ap, subst, arith, inl, inr, IsTrue}
use Rattle.tech_draft.proofs.Common.{Option, Some, None, Ok, not, nat_lt, nat_le, list_any, ok_or, bytes_eq, cases_Bool, or_parts, and_parts}
use Rattle.tech_draft.proofs.Common.{not-false, not-true, eqb-true, eqb-false, length_push, All-push, bytes_eq-Decides, In, Distinct-push}
use Rattle.tech_draft.proofs.Common.{All-from_In, list_any-In, position_from-none, is_plain_name, and_then, TypeId, ClassRec, FetRule, TechFault}
use Rattle.tech_draft.proofs.Common.{BadForm, Twice, MOST_TYPES, MOST_CLASSES, MOST_FETS, is_layer_name, plane_of, has_name, Drafted, is_comma}
use Rattle.tech_draft.proofs.Common.{pieces_of, is_entry_list, measure_in, name_part, entry_types, has_type, types_of_list, type_of_word}
use Rattle.tech_draft.proofs.Common.{layer_of_word, new_names, with_atom, other_residues, residues_of_layer, with_contact, with_union, with_pairs}
use Rattle.tech_draft.proofs.Common.{with_pair_list, fet_with, HasSoundRules, IsPart, IsSound}
use Rattle.std.proofs.Common.{◌||◌}
use Rattle.std.specs.Prelude.{codes}
use Rattle.std.specs.List.{list_all}
use Rattle.std.proofs.lemmas.Bool.{leb-false}
use Rattle.std.proofs.lemmas.List.Splits.{length-slice_split}
use Rattle.std.proofs.lemmas.List.Quantifiers.{position-Some}
use Rattle.finite_sets.proofs.Searches.{list_all-In, absent-from_list_any}
use Rattle.tech_model.specs.declared.faults.Section.{Section}
use Rattle.tech_model.specs.declared.faults.Section.TheVariants.{Tech, Planes, Types, Contact, Compose, Connect, Extract}
use Rattle.tech_model.specs.declared.faults.TechFault.TheVariants.{NoPlane, TooMany}
use Rattle.tech_model.specs.declared.faults.LimitedList.TheVariants as lists
use Rattle.tech_model.specs.declared.limits.TheConstants.{MOST_PLANES}
use Rattle.tech_draft.specs.Words.{has_form}
use Rattle.tech_draft.specs.declared.words.WordForm.TheVariants.{LayerName, LayerTerm}
use Rattle.tech_draft.specs.declared.draft.word_rules.WordRule.TheVariants as rule
use Rattle.tech_draft.specs.WordRules.{refuse, check_entries, check_layers}
use Rattle.tech_draft.specs.Lookups.{plane_named}
use Rattle.tech_draft.specs.TypeLines.{with_name, name_line, with_plane, plane_line, new_atom}
use Rattle.tech_draft.specs.TypeLines.{type_line}
use Rattle.tech_draft.specs.SetLines.{contact_line}
use Rattle.tech_draft.specs.SetLines.{are_composable, is_settled, compose_line}
use Rattle.tech_draft.specs.ListLines.{connect_line, with_class, new_class, resist_line}
use Rattle.tech_draft.specs.ListLines.{shared_class, uncapped}
use Rattle.tech_draft.specs.ListLines.{with_capacitance, new_capacitance, cap_line, is_fet_form, has_fet, with_rule, check_fet}
use Rattle.tech_draft.specs.ListLines.{fet_line, extract_line}
use Rattle.tech_draft.specs.Lines.{line_in}
use Rattle.tech_draft.specs.Sound.{HasSoundNames}
use Rattle.tech_draft.proofs.AtomSteps.{IsNewLayer, atom_growth, atom_layers, atom_step}
use Rattle.tech_draft.proofs.ContactLines.{new_contact-keeps}
use Rattle.tech_draft.proofs.ContactSteps.{images_growth, images_layers, contact_step}
use Rattle.tech_draft.proofs.Growths.{grown-keeps}
use Rattle.tech_draft.proofs.IndexLaws.{new_names-free}
use Rattle.tech_draft.proofs.Keeps.{kept_rules, places-keep, places-layers, same_places, with_set-places}
use Rattle.tech_draft.proofs.LookupLaws.{IsNamed, word_named, part_word}
use Rattle.tech_draft.proofs.Refusals.{right, and_then-ok, rule-ok, none_breaks, entries_mean, layers_mean}
use Rattle.tech_draft.proofs.RuleLines.{with_lists, connect_rules, measure-small, class_rules, cap_rules, fet_rules}
use Rattle.tech_draft.proofs.Steps.{sets_after, with_rules, rules_step}
use Rattle.tech_draft.proofs.UnionSteps.{IsUnionLine, union_of, union-keeps, union_step}

-- what a line makes is what it leaves
pub made : (after next : Drafted) → right after ≡ right next → IsSound after → IsSound next
made after next is sound = let same : after ≡ next = cc in subst IsSound same sound

-- names, planes and rules that fit the lists
rules-sound : (draft : Drafted) (name : List ℕ) (planes : List (List ℕ)) (pairs : List (TypeId × TypeId)) (classes : List ClassRec)
    (fets : List FetRule) (capped : List ℕ)
    → IsSound draft → HasSoundNames name planes → length draft.raw.planes ≤ length planes
    → HasSoundRules (with_lists draft.raw pairs classes fets)
    → IsSound (with_rules draft name planes pairs classes fets capped)
rules-sound draft name planes pairs classes fets capped sound names more rules =
    let new = with_rules draft name planes pairs classes fets capped in
    let old = with_lists draft.raw pairs classes fets in
    record {
      names = names;
      layers = places-layers draft.raw new.raw (same_places draft.raw.types) refl more sound.layers;
      rules = kept_rules old name planes draft.raw.types draft.raw.layers (places-keep old new.raw (same_places draft.raw.types)) rules;
      sets = sets_after draft new (rules_step draft name planes pairs classes fets capped sound.sets) sound.sets;
    }

-- ---- names and planes

sound-name : (draft next : Drafted) (words : List (List ℕ)) → IsSound draft → name_line draft words ≡ Ok next → IsSound next
unfolding name_line
sound-name draft next (name ∷ []) sound is =
    let raw = draft.raw in
    let form = rule-ok (not (length raw.name == 0) || not (is_plain_name name)) BadForm (Ok (with_name draft name)) next is in
    let plain = not-false (is_plain_name name) (or_parts (not (length raw.name == 0)) (not (is_plain_name name)) form.0).1 in
    let names : HasSoundNames name raw.planes =
    record { plain = inr plain; limit = sound.names.limit; plane_names = sound.names.plane_names; differ = sound.names.differ } in
    made (with_name draft name) next form.1
    (rules-sound draft name raw.planes raw.pairs raw.classes raw.fets draft.capped sound names (omega arith) sound.rules)
sound-name draft next _ sound is = absurd (cc)

sound-plane : (draft next : Drafted) (words : List (List ℕ)) → IsSound draft → plane_line draft words ≡ Ok next → IsSound next
unfolding plane_line
sound-plane draft next (name ∷ []) sound is =
    let raw = draft.raw in
    let form = rule-ok (not (is_plain_name name)) BadForm _ next is in
    let once = rule-ok (list_any (bytes_eq name) raw.planes) (Twice name) _ next form.1 in
    let room = rule-ok (nat_le MOST_PLANES (length raw.planes)) (TooMany lists.Planes) (Ok (with_plane draft name)) next once.1 in
    let few = leb-false MOST_PLANES (length raw.planes) room.0 in
    let long = length_push raw.planes name in
    let names : HasSoundNames raw.name (raw.planes ++ name ∷ []) = record {
      plain = sound.names.plain;
      limit = omega (arith, long, few);
      plane_names = All-push (λ (n : List ℕ). IsTrue (is_plain_name n)) raw.planes name sound.names.plane_names
          (not-false (is_plain_name name) form.0);
      differ = Distinct-push raw.planes name sound.names.differ (absent-from_list_any bytes_eq bytes_eq-Decides name raw.planes once.0);
    } in
    made (with_plane draft name) next room.1
    (rules-sound draft raw.name (raw.planes ++ name ∷ []) raw.pairs raw.classes raw.fets draft.capped sound names
    (omega (arith, long)) sound.rules)
sound-plane draft next _ sound is = absurd (cc)

-- ---- types

found_some : {X : Type 0} (o : Option X) (fault : TechFault) (x : X) → ok_or o fault ≡ Ok x → o ≡ Some x
found_some None fault x is = absurd (cc)
found_some (Some y) fault x is = let same : y ≡ x = cc in ap (λ z. Some z) same

new_layer-line : (draft : Drafted) (word : List ℕ) (names : List (List ℕ)) (plane : ℕ) → 0 < length names
    → list_all (has_form LayerName) names ≡ true
    → plane_named draft.raw word ≡ Some plane → new_names draft.raw [] names ≡ Ok tt → length draft.raw.types < MOST_TYPES
    → IsNewLayer draft.raw plane names
new_layer-line draft word names plane some good placed new room =
    let raw = draft.raw in
    record {
      plane_below = (position-Some (bytes_eq word) raw.planes plane [] placed).0;
      named = some;
      forms = All-from_In (λ (name : List ℕ). IsTrue (is_layer_name name)) names
          (λ name is. list_all-In (has_form LayerName) names name good is);
      new = λ layer name layer_in had is. elim (cases_Bool (list_any (bytes_eq name) names)) [
        | inl listed ↦ absent-from_list_any bytes_eq bytes_eq-Decides name layer.names
            (position_from-none (has_name name) 0 raw.layers layer (new_names-free raw [] names name new listed) layer_in) had
        | inr missing ↦ absent-from_list_any bytes_eq bytes_eq-Decides name names missing is
      ];
      limit = room;
    }

sound-type : (draft next : Drafted) (words : List (List ℕ)) → IsSound draft → type_line draft words ≡ Ok next → IsSound next
unfolding type_line
sound-type draft next (word ∷ list ∷ []) sound is =
    let raw = draft.raw in
    let names = pieces_of list in
    let form = rule-ok (not (is_plain_name word) || not (list_all (has_form LayerName) names)) BadForm _ next is in
    let good = not-false (list_all (has_form LayerName) names)
    (or_parts (not (is_plain_name word)) (not (list_all (has_form LayerName) names)) form.0).1 in
    let placed = and_then-ok (ok_or (plane_named raw word) (NoPlane word)) (new_atom draft names) next form.1 in
    let plane = placed.0 in
    let after : Drafted = record draft { raw = with_atom raw plane names } in
    let new = and_then-ok (new_names raw [] names) _ next placed.1.1 in
    let room = rule-ok (nat_le MOST_TYPES (length raw.types)) (TooMany lists.Types) (Ok after) next new.1.1 in
    let fresh = new_layer-line draft word names plane (omega (arith, length-slice_split is_comma list)) good
    (found_some (plane_named raw word) (NoPlane word) plane placed.1.0) new.1.0 (leb-false MOST_TYPES (length raw.types) room.0) in
    made after next room.1 (record {
      names = sound.names;
      layers = atom_layers raw plane names sound.layers fresh;
      rules = kept_rules raw raw.name raw.planes after.raw.types after.raw.layers (grown-keeps (atom_growth raw plane names)) sound.rules;
      sets = sets_after draft after (atom_step draft plane names sound.layers sound.sets) sound.sets;
    })
sound-type draft next _ sound is = absurd (cc)

-- ---- contacts

layers_named : (draft : Drafted) (words : List (List ℕ)) → IsSound draft → check_layers draft.raw words ≡ Ok tt → (word : List ℕ)
    → In word words → IsNamed draft.raw word
layers_named draft words sound is word inside =
    let mean = layers_mean draft.raw words is word inside in
    word_named draft.raw word sound.layers mean.0 mean.1

sound-contact : (draft next : Drafted) (words : List (List ℕ)) → IsSound draft → contact_line draft words ≡ Ok next → IsSound next
unfolding contact_line
sound-contact draft next (base ∷ one ∷ two ∷ more) sound is =
    let raw = draft.raw in
    let residues = one ∷ two ∷ more in
    let form = rule-ok (not (list_all (has_form LayerTerm) (base ∷ residues))) BadForm _ next is in
    let known = and_then-ok (check_layers raw (base ∷ residues)) _ next form.1 in
    let rules = new_contact-keeps draft next base residues (omega arith) (layers_named draft (base ∷ residues) sound known.1.0) known.1.1 in
    let layer = layer_of_word raw base in
    let own = type_of_word raw base in
    let others = other_residues raw base residues in
    let after = with_contact draft base residues in
    let plan = rules.0 in
    made after next rules.2 (record {
      names = sound.names;
      layers = images_layers raw layer own others sound.layers plan;
      rules = kept_rules raw raw.name raw.planes after.raw.types after.raw.layers
          (grown-keeps (images_growth raw layer own others plan)) sound.rules;
      sets = sets_after draft after
          (contact_step draft layer own others (residues_of_layer raw layer residues) sound.layers sound.sets plan rules.1) sound.sets;
    })
sound-contact draft next _ sound is = absurd (cc)

-- ---- composed types

union_line : (draft : Drafted) (whole first second : TypeId) → are_composable draft.raw whole first second ≡ true
    → is_settled draft whole ≡ false
    → IsPart draft.raw whole.0 → IsPart draft.raw first.0 → IsPart draft.raw second.0 → IsUnionLine draft whole first second
unfolding are_composable is_settled
union_line draft whole first second good free is_whole is_first is_second =
    let raw = draft.raw in
    let parts = and_parts _ (not (first.0 == second.0)) good in
    let others = and_parts _ (not (second.0 == whole.0)) parts.0 in
    let other = and_parts _ (not (first.0 == whole.0)) others.0 in
    let planes = and_parts (plane_of raw first.0 == plane_of raw whole.0) (plane_of raw second.0 == plane_of raw whole.0) other.0 in
    let unused = (or_parts (has_type draft.results whole) (has_type draft.used whole) free).1 in
    record {
      is_whole = is_whole;
      is_first = is_first;
      is_second = is_second;
      first_plane = eqb-true (plane_of raw first.0) (plane_of raw whole.0) planes.0;
      second_plane = eqb-true (plane_of raw second.0) (plane_of raw whole.0) planes.1;
      first_other = eqb-false first.0 whole.0 (not-true (first.0 == whole.0) other.1);
      second_other = eqb-false second.0 whole.0 (not-true (second.0 == whole.0) others.1);
      differ = eqb-false first.0 second.0 (not-true (first.0 == second.0) parts.1);
      unused = λ t inside. eqb-false t.0 whole.0 (list_any-In (λ (u : TypeId). u.0 == whole.0) draft.used t unused inside);
    }

sound-compose : (draft next : Drafted) (words : List (List ℕ)) → IsSound draft → compose_line draft words ≡ Ok next → IsSound next
unfolding compose_line
sound-compose draft next (key ∷ whole ∷ first ∷ second ∷ []) sound is =
    let raw = draft.raw in
    let words = whole ∷ first ∷ second ∷ [] in
    let said = rule-ok (not (bytes_eq key (codes "compose"))) BadForm _ next is in
    let well = rule-ok (not (list_all (has_form LayerTerm) words)) BadForm _ next said.1 in
    let known = and_then-ok (check_layers raw words) _ next well.1 in
    let w = type_of_word raw whole in
    let f = type_of_word raw first in
    let s = type_of_word raw second in
    let form = rule-ok (not (are_composable raw w f s)) BadForm _ next known.1.1 in
    let once = rule-ok (is_settled draft w) (Twice whole) _ next form.1 in
    let parts = and_then-ok (refuse raw rule.Contact words) _ next once.1 in
    let part : (word : List ℕ) → In word words → IsPart raw (type_of_word raw word).0 =
    λ word inside. part_word raw word (layers_named draft words sound known.1.0 word inside)
    (none_breaks raw rule.Contact words parts.1.0 word inside) in
    let line = union_line draft w f s (not-false (are_composable raw w f s) form.0) once.0 (part whole (inl refl))
    (part first (inr (inl refl))) (part second (inr (inr (inl refl)))) in
    let after = with_union draft w f s in
    made after next parts.1.1 (record {
      names = sound.names;
      layers = places-layers raw after.raw (with_set-places raw w (union_of raw f s)) refl (omega arith) sound.layers;
      rules = kept_rules raw raw.name raw.planes after.raw.types raw.layers (union-keeps raw w f s) sound.rules;
      sets = sets_after draft after (union_step draft w f s sound.sets line) sound.sets;
    })
sound-compose draft next _ sound is = absurd (cc)

-- ---- pairs, classes and transistors

sound-connect : (draft next : Drafted) (words : List (List ℕ)) → IsSound draft → connect_line draft words ≡ Ok next → IsSound next
unfolding connect_line
sound-connect draft next (first ∷ second ∷ []) sound is =
    let raw = draft.raw in
    let form = rule-ok (not (is_entry_list first) || not (is_entry_list second)) BadForm _ next is in
    let known = and_then-ok (check_entries raw (pieces_of first ++ pieces_of second)) _ next form.1 in
    let pairs = with_pairs raw (types_of_list raw first) (types_of_list raw second) in
    made (with_pair_list draft pairs) next known.1.1
    (rules-sound draft raw.name raw.planes pairs raw.classes raw.fets draft.capped sound sound.names (omega arith)
    (connect_rules raw first second sound.layers sound.rules))
sound-connect draft next _ sound is = absurd (cc)

sound-resist : (draft next : Drafted) (words : List (List ℕ)) → IsSound draft → resist_line draft words ≡ Ok next → IsSound next
unfolding resist_line
sound-resist draft next (list ∷ word ∷ []) sound is =
    let raw = draft.raw in
    let value = and_then-ok (measure_in word) (new_class draft list) next is in
    let form = rule-ok (not (is_entry_list list)) BadForm _ next value.1.1 in
    let known = and_then-ok (check_entries raw (pieces_of list)) _ next form.1 in
    let free = and_then-ok (refuse raw rule.Classed (pieces_of list)) _ next known.1.1 in
    let after = with_class draft (types_of_list raw list) value.0 in
    let room = rule-ok (nat_le MOST_CLASSES (length raw.classes)) (TooMany lists.Classes) (Ok after) next free.1.1 in
    made after next room.1
    (rules-sound draft raw.name raw.planes raw.pairs after.raw.classes raw.fets draft.capped sound sound.names (omega arith)
    (class_rules raw list value.0 sound.layers sound.rules free.1.0 (leb-false MOST_CLASSES (length raw.classes) room.0)
    (measure-small word value.0 value.1.0)))
sound-resist draft next _ sound is = absurd (cc)

sound-cap : (draft next : Drafted) (words : List (List ℕ)) → IsSound draft → cap_line draft words ≡ Ok next → IsSound next
unfolding cap_line
sound-cap draft next (list ∷ first ∷ second ∷ []) sound is =
    let raw = draft.raw in
    let area = and_then-ok (measure_in first) (λ area. and_then (measure_in second) (new_capacitance draft list area)) next is in
    let perimeter = and_then-ok (measure_in second) (new_capacitance draft list area.0) next area.1.1 in
    let form = rule-ok (not (is_entry_list list)) BadForm _ next perimeter.1.1 in
    let known = and_then-ok (check_entries raw (pieces_of list)) _ next form.1 in
    let free = and_then-ok (uncapped draft list (shared_class raw (types_of_list raw list)))
    (λ class. Ok (with_capacitance draft area.0 perimeter.0 class)) next known.1.1 in
    let after = with_capacitance draft area.0 perimeter.0 free.0 in
    made after next free.1.1
    (rules-sound draft raw.name raw.planes raw.pairs after.raw.classes raw.fets after.capped sound sound.names (omega arith)
    (cap_rules raw area.0 perimeter.0 free.0 sound.rules (measure-small first area.0 area.1.0)
    (measure-small second perimeter.0 perimeter.1.0)))
sound-cap draft next _ sound is = absurd (cc)

sound-fet : (draft next : Drafted) (words : List (List ℕ)) → IsSound draft → fet_line draft words ≡ Ok next → IsSound next
unfolding fet_line
sound-fet draft next (kind ∷ list ∷ name ∷ substrate ∷ []) sound is =
    let raw = draft.raw in
    let form = rule-ok (not (is_fet_form kind list name substrate)) BadForm _ next is in
    let known = and_then-ok (check_entries raw (kind ∷ pieces_of list)) _ next form.1 in
    let allowed = and_then-ok (check_fet raw kind) _ next known.1.1 in
    let single = rule-ok (nat_lt 1 (length (entry_types raw kind))) BadForm _ tt allowed.1.0 in
    let once = rule-ok (has_fet raw (type_of_word raw kind)) (Twice (name_part kind)) _ tt single.1 in
    let room = rule-ok (nat_le MOST_FETS (length raw.fets)) (TooMany lists.Fets) (Ok tt) tt once.1 in
    let after = with_rule draft (fet_with raw kind list name substrate) in
    made after next allowed.1.1
    (rules-sound draft raw.name raw.planes raw.pairs raw.classes after.raw.fets draft.capped sound sound.names (omega arith)
    (fet_rules raw kind list name substrate sound.layers sound.rules (not-false (is_fet_form kind list name substrate) form.0)
    (entries_mean raw (kind ∷ pieces_of list) known.1.0 kind (inl refl)) once.0 (leb-false MOST_FETS (length raw.fets) room.0)))
sound-fet draft next _ sound is = absurd (cc)

sound-extract : (draft next : Drafted) (words : List (List ℕ)) → IsSound draft → extract_line draft words ≡ Ok next → IsSound next
unfolding extract_line
sound-extract draft next [] sound is = made draft next is sound
sound-extract draft next (key ∷ words) sound is = elim (cases_Bool (bytes_eq key (codes "resist"))) [
  | inl resist ↦ sound-resist draft next words sound (rw resist at is)
  | inr other ↦ let rest = rw other at is in elim (cases_Bool (bytes_eq key (codes "cap"))) [
    | inl cap ↦ sound-cap draft next words sound (rw cap at rest)
    | inr last ↦ let more = rw last at rest in elim (cases_Bool (bytes_eq key (codes "fet"))) [
      | inl fet ↦ sound-fet draft next words sound (rw fet at more)
      | inr none ↦ made draft next (rw none at more) sound
    ]
  ]
]

-- a line that is read keeps a draft sound
pub IsSound-line : (section : Section) (draft next : Drafted) (words : List (List ℕ)) → IsSound draft
    → line_in section draft words ≡ Ok next → IsSound next
unfolding line_in
IsSound-line Tech draft next words sound is = sound-name draft next words sound is
IsSound-line Planes draft next words sound is = sound-plane draft next words sound is
IsSound-line Types draft next words sound is = sound-type draft next words sound is
IsSound-line Contact draft next words sound is = sound-contact draft next words sound is
IsSound-line Compose draft next words sound is = sound-compose draft next words sound is
IsSound-line Connect draft next words sound is = sound-connect draft next words sound is
IsSound-line Extract draft next words sound is = sound-extract draft next words sound is
