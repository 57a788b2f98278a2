-- The names of the first so many elements, one element's behind those of the one before.
use Rattle.full_names.proofs.Common.{◌≡◌, ℕ, ◌+◌, ◌-◌, ◌<◌, ◌≤◌, List, [], ◌∷◌, ◌++◌, length, get_or, inl, inr, refl, sym, ◌∙◌, ap, subst, arith}
use Rattle.full_names.proofs.Common.{length-append, slice_index, cases_lt, get_or_append_left, get_or_push, append_assoc, Place, no_place, place_at}
use Rattle.full_names.proofs.Common.{places_of, IsPlace, StandsAt, ArePlacesBelow}
use Rattle.std.proofs.lemmas.List.{get_or-append_right, length_push}
use Rattle.std.proofs.lemmas.List.FromFn.{get_or-map-range_with_len, length-map-range_with_len, map-range_with_len_more}

-- one more name of an element
pub places_push : (number own : ℕ) (before now later : List Place) → now ≡ before ++ places_of number own
    → later ≡ now ++ record { element = number; own = own } ∷ [] → later ≡ before ++ places_of number (own + 1)
places_push number own before now later so_far pushed =
    pushed ∙ ap (λ (places : List Place). places ++ record { element = number; own = own } ∷ []) so_far
    ∙ append_assoc before (places_of number own) (record { element = number; own = own } ∷ [])
    ∙ ap (λ (places : List Place). before ++ places)
    (sym (map-range_with_len_more (λ o. record { element = number; own = o }) 0 own own (omega arith)))

pub places_none : (count : ℕ → ℕ) (bases : List ℕ) (places : List Place) → bases ≡ [] → places ≡ [] → ArePlacesBelow count 0 bases places
places_none count bases places no_bases none =
    let empty : length places ≡ 0 = ap length none in
    record {
      long = ap length no_bases;
      each = λ slot below. absurd (omega arith);
      at = λ slot below. absurd (omega arith);
      all = λ number own below within. absurd (omega arith);
    }

module _ (count : ℕ → ℕ) (k : ℕ) (bases : List ℕ) (places : List Place) (so_far : ArePlacesBelow count k bases places) where
  abbrev later_bases : List ℕ
  later_bases = bases ++ length places ∷ []

  abbrev later_places : List Place
  later_places = places ++ places_of k (count k)

  length-later : length later_places ≡ length places + count k
  length-later =
      length-append places (places_of k (count k))
      ∙ ap (λ n. length places + n) (length-map-range_with_len (λ own. record { element = k; own = own }) 0 (count k))

  old_place : (slot : ℕ) → slot < length places → place_at later_places slot ≡ place_at places slot
  old_place slot below = get_or_append_left places (places_of k (count k)) no_place slot below

  new_place : (own : ℕ) → own < count k → place_at later_places (length places + own) ≡ record { element = k; own = own }
  new_place own within =
      let less : length places + own - length places ≡ own = omega arith in
      get_or-append_right places (places_of k (count k)) (length places) (length places + own) no_place refl (omega arith)
      ∙ ap (λ n. get_or (places_of k (count k)) n no_place) less
      ∙ get_or-map-range_with_len (λ o. record { element = k; own = o }) 0 (count k) own own no_place within (omega arith)

  old_base : (number : ℕ) → number < k → slice_index later_bases number ≡ slice_index bases number
  old_base number below = let long = so_far.long in get_or_append_left bases (length places ∷ []) 0 number (omega arith)

  new_base : slice_index later_bases k ≡ length places
  new_base = get_or_push bases (length places) 0 k so_far.long

  -- a place past the old ones is one of the new element's
  record IsNew (slot : ℕ) : Type 0 where
    pub own : ℕ
    pub within : own < count k
    pub is_slot : length places + own ≡ slot

  is_new : (slot : ℕ) → length places ≤ slot → slot < length later_places → IsNew slot
  is_new slot past below = record { own = slot - length places; within = let n = length-later in omega arith; is_slot = omega arith }

  place_of_new : (slot : ℕ) (new : IsNew slot) → place_at later_places slot ≡ record { element = k; own = new.own }
  place_of_new slot new = ap (place_at later_places) (sym new.is_slot) ∙ new_place new.own new.within

  later_each : (slot : ℕ) → slot < length later_places → IsPlace count (k + 1) (place_at later_places slot)
  later_each slot below =
      elim (cases_lt slot (length places)) [
        | inl old ↦ (let is = so_far.each slot old in
            subst (IsPlace count (k + 1)) (sym (old_place slot old)) (record { element = let less = is.element in omega arith; own = is.own }))
        | inr past ↦ (let new = is_new slot past below in
            subst (IsPlace count (k + 1)) (sym (place_of_new slot new)) (record { element = omega arith; own = new.within }))
      ]

  later_at : (slot : ℕ) → slot < length later_places
      → slot ≡ slice_index later_bases (place_at later_places slot).element + (place_at later_places slot).own
  later_at slot below =
      elim (cases_lt slot (length places)) [
        | inl old ↦ so_far.at slot old
            ∙ ap (λ base. base + (place_at places slot).own) (sym (old_base (place_at places slot).element (so_far.each slot old).element))
            ∙ ap (λ (p : Place). slice_index later_bases p.element + p.own) (sym (old_place slot old))
        | inr past ↦ (let new = is_new slot past below in
            sym new.is_slot ∙ ap (λ base. base + new.own) (sym new_base)
            ∙ ap (λ (p : Place). slice_index later_bases p.element + p.own) (sym (place_of_new slot new)))
      ]

  later_all : (number own : ℕ) → number < k + 1 → own < count number → StandsAt later_bases later_places number own
  later_all number own below within =
      elim (cases_lt number k) [
        | inl old ↦ (let stands = so_far.all number own old within in
            let base = old_base number old in
            record {
              within = let less = stands.within in let n = length-later in omega arith;
              is = ap (λ b. place_at later_places (b + own)) base ∙ old_place (slice_index bases number + own) stands.within ∙ stands.is;
            })
        | inr new ↦ (let same : number ≡ k = omega arith in
            let inside : own < count k = subst (λ (n : ℕ). own < count n) same within in
            let base = ap (slice_index later_bases) same ∙ new_base in
            record {
              within = let n = length-later in omega arith;
              is = ap (λ b. place_at later_places (b + own)) base ∙ new_place own inside
                  ∙ ap (λ n. record { element = n; own = own }) (sym same);
            })
      ]

  pub places_more : (now_bases : List ℕ) (now_places : List Place) (n : ℕ) → n ≡ count k → now_bases ≡ later_bases
      → now_places ≡ places ++ places_of k n → ArePlacesBelow count (k + 1) now_bases now_places
  places_more now_bases now_places n is_count bases_are places_are =
      let made : ArePlacesBelow count (k + 1) later_bases later_places = record {
        long = let long = so_far.long in let n = length_push bases (length places) in omega arith;
        each = later_each;
        at = later_at;
        all = later_all;
      } in
      subst (λ (b : List ℕ). ArePlacesBelow count (k + 1) b now_places) (sym bases_are)
      (subst (ArePlacesBelow count (k + 1) later_bases) (sym (places_are ∙ ap (λ c. places ++ places_of k c) is_count)) made)
