-- Where numbers stand in an order.
use Rattle.full_names.proofs.Common.{◌≡◌, ℕ, ◌+◌, ◌<◌, ◌≤◌, List, length, inl, inr, sym, ◌∙◌, ap, subst, arith, get_or-set_same, get_or-set_other}
use Rattle.full_names.proofs.Common.{slice_index, set, length-set, cases_eq, cases_lt, In-index, StandsWhere, AreStandings}

-- The numbers at the first so many places stand where the list says.
pub record AreWritten (slots : List ℕ) (end : ℕ) (standings : List ℕ) : Type 0 where
  pub long : length standings ≡ length slots
  pub each : (place : ℕ) → place < end → StandsWhere slots standings (slice_index slots place)

pub written_none : (slots standings : List ℕ) → length standings ≡ length slots → AreWritten slots 0 standings
written_none slots standings long = record { long = long; each = λ place below. absurd (omega arith) }

pub written_more : (slots : List ℕ) (k : ℕ) (standings : List ℕ) → k < length slots → slice_index slots k < length slots
    → AreWritten slots k standings → AreWritten slots (k + 1) (set standings (slice_index slots k) k)
written_more slots k standings within inside so_far =
    let slot = slice_index slots k in
    let now = set standings slot k in
    let room : slot < length standings = let long = so_far.long in omega arith in
    let here : slice_index now slot ≡ k = get_or-set_same standings slot k 0 room in
    record {
      long = length-set standings slot k ∙ so_far.long;
      each = λ place below.
          elim (cases_eq (slice_index slots place) slot) [
            | inl same ↦ record {
              within = let at = ap (slice_index now) same ∙ here in omega arith;
              is = ap (λ (n : ℕ). slice_index slots (slice_index now n)) same ∙ ap (slice_index slots) here ∙ sym same;
            }
            | inr differ ↦ (elim (cases_lt place k) [
              | inl before ↦ (let old = so_far.each place before in
                  let kept : slice_index now (slice_index slots place) ≡ slice_index standings (slice_index slots place) =
                  get_or-set_other standings slot (slice_index slots place) k 0 differ in
                  record { within = let less = old.within in omega arith; is = ap (slice_index slots) kept ∙ old.is })
              | inr not_before ↦ (let same : place ≡ k = omega arith in absurd (differ (ap (slice_index slots) same)))
            ])
          ];
    }

pub written_all : (slots : List ℕ) (end : ℕ) (standings : List ℕ) → length slots ≤ end → AreWritten slots end standings → AreStandings slots standings
written_all slots end standings past so_far = record {
  long = so_far.long;
  each = λ slot here.
      let at = In-index slot slots here in
      let below : at.0 < end = let within = at.1.0 in omega arith in
      subst (StandsWhere slots standings) (at.1.1 0) (so_far.each at.0 below);
}
