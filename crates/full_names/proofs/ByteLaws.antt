-- Sums of bytes, one name and one element after the other.
use Rattle.full_names.proofs.Common.{◌≡◌, ℕ, ◌+◌, ◌<◌, ◌≤◌, List, Some, length, take, sym, ◌∙◌, ap, subst, arith, slice_get, slice_get-below}
use Rattle.full_names.proofs.Common.{TreeElement, OwnName, RecordNames, locals_of, no_element, flat_at, local_bytes, element_bytes}
use Rattle.std.proofs.lemmas.List.Sums.{sum_by_more, sum_by_more_le}
use Rattle.full_names.proofs.RecordReads.{locals_known}

-- the path of one more name is within the sum of all
pub path_counts : (path : ℕ) (names : List OwnName) (k : ℕ) → k < length names → local_bytes path (take k names) + path ≤ local_bytes path names
path_counts path names k within =
    let one = (slice_get-below names k within).0 in
    let more = sum_by_more_le (λ (name : OwnName). path + length name.text.now) names k one within in
    omega (arith, more)

module _ (flats : List TreeElement) (records : List RecordNames) (k : ℕ) (own : RecordNames) (names : List OwnName)
    (has : slice_get records (flat_at flats k).cell ≡ Some own) (are : names ≡ own.locals.items) where
  abbrev bytes_of : TreeElement → ℕ
  bytes_of flat = local_bytes flat.bytes (locals_of records flat.cell)

  element_is : bytes_of (flat_at flats k) ≡ local_bytes (flat_at flats k).bytes names
  element_is = ap (local_bytes (flat_at flats k).bytes) (locals_known records (flat_at flats k).cell own has ∙ sym are)

  -- the bytes of one more element's names
  pub element_counted : (items : List TreeElement) → items ≡ flats → k < length items
      → element_bytes records (take (k + 1) items) ≡ element_bytes records (take k items) + local_bytes (flat_at items k).bytes names
  element_counted items same within =
      let inside = subst (λ (list : List TreeElement). k < length list) same within in
      let step = sum_by_more bytes_of flats k no_element inside in
      let is = element_is in
      let made : element_bytes records (take (k + 1) flats) ≡ element_bytes records (take k flats) + local_bytes (flat_at flats k).bytes names =
      step ∙ ap (λ n. element_bytes records (take k flats) + n) is in
      subst (λ (list : List TreeElement).
      element_bytes records (take (k + 1) list) ≡ element_bytes records (take k list) + local_bytes (flat_at list k).bytes names) (sym same) made

  -- they are within the sum of all
  pub element_counts : (items : List TreeElement) → items ≡ flats → k < length items
      → element_bytes records (take k items) + local_bytes (flat_at items k).bytes names ≤ element_bytes records flats
  element_counts items same within =
      let inside = subst (λ (list : List TreeElement). k < length list) same within in
      let more = sum_by_more_le bytes_of flats k no_element inside in
      let is = element_is in
      let made : element_bytes records (take k flats) + local_bytes (flat_at flats k).bytes names ≤ element_bytes records flats =
      subst (λ n. element_bytes records (take k flats) + n ≤ element_bytes records flats) is more in
      subst (λ (list : List TreeElement).
      element_bytes records (take k list) + local_bytes (flat_at list k).bytes names ≤ element_bytes records flats) (sym same) made
