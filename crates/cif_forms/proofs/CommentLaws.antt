-- Comments, byte by byte.
use Rattle.cif_forms.proofs.Common.{◌≡◌, ◌<◌, ◌≤◌, ◌+◌, ◌-◌, ◌==◌, ℕ, Bool, true, false, cond, List, [], ◌∷◌, ◌++◌, length, drop, get_or}
use Rattle.cif_forms.proofs.Common.{append_assoc, sym, ap, ◌∙◌, arith, Scan, is_semicolon, shown_from}
use Rattle.std.proofs.lemmas.List.{drop_more}
use Rattle.cif_forms.specs.declared.comments.Place.TheVariants.{Before}
use Rattle.cif_forms.specs.Comments.{behind, depth_behind, is_of_comment, place_behind, shown}

one_more : (depth : ℕ) (opens shuts : Bool) → cond opens (depth + 1) (cond shuts (depth - 1) depth) ≤ depth + 1
one_more depth true shuts = omega arith
one_more depth false true = omega arith
one_more depth false false = omega arith

any_of : (most : ℕ) (commented ended other : Scan) (is ends : Bool) → commented.depth ≤ most → ended.depth ≤ most → other.depth ≤ most
    → (cond is commented (cond ends ended other)).depth ≤ most
any_of most commented ended other true ends one two three = one
any_of most commented ended other false true one two three = two
any_of most commented ended other false false one two three = three

-- one more byte opens one more parenthesis at most
pub depth-behind : (scan : Scan) (byte : ℕ) → (behind scan byte).depth ≤ scan.depth + 1
depth-behind scan byte =
    any_of (scan.depth + 1) (record scan { depth = depth_behind scan.depth byte }) (record scan { place = Before })
    (record scan { place = place_behind scan.place byte }) (is_of_comment scan byte) (is_semicolon byte)
    (one_more scan.depth (byte == 40) (byte == 41)) (omega arith) (omega arith)

-- one more byte is shown, and the text goes on behind it
pub shown-more : (text out more whole : List ℕ) (i byte : ℕ) (scan next : Scan) → i < length text
    → more ≡ out ++ byte ∷ [] → byte ≡ shown scan (get_or text i 0) → next ≡ behind scan (get_or text i 0)
    → out ++ shown_from scan (drop i text) ≡ whole → more ++ shown_from next (drop (i + 1) text) ≡ whole
shown-more text out more whole i byte scan next inside pushed is goes_on before =
    let at = get_or text i 0 in
    let rest = drop (i + 1) text in
    ap (λ front. front ++ shown_from next rest) (pushed ∙ ap (λ b. out ++ b ∷ []) is)
    ∙ (ap (λ s. (out ++ shown scan at ∷ []) ++ shown_from s rest) goes_on
    ∙ (append_assoc out (shown scan at ∷ []) (shown_from (behind scan at) rest)
    ∙ (ap (λ behind. out ++ shown_from scan behind) (sym (drop_more text i 0 inside)) ∙ before)))
