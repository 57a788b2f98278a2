-- Texts cut at the first such byte.
use Rattle.ext_model.proofs.Common.{◌≡◌, ◌≢◌, ◌==◌, ◌+◌, ◌++◌, ℕ, suc, Bool, true, false, cond, List, [], ◌∷◌, refl, sym, ap, ◌∙◌, arith, eqb-true}
use Rattle.std.proofs.Common.{not, drop, take}
use Rattle.std.specs.List.{after_first, position_or_len}
use Rattle.ext_model.specs.Plain.{before, behind}
use Rattle.ext_model.proofs.TextCuts.{Lacks, front_of, front_of-cut}
pub use Rattle.ext_model.proofs.TextCuts.{behind-cut}

-- a byte more in front, which may be the first of these
step_back : (first : Bool) (byte : ℕ) (text rest : List ℕ) (k : ℕ) → rest ≡ drop (k + 1) text
    → cond first text rest ≡ drop (cond (not first) (1 + k) 0 + 1) (byte ∷ text)
step_back true byte text rest k is = refl
step_back false byte text rest k is =
    let further : suc (k + 1) ≡ 1 + k + 1 = omega arith in
    is ∙ ap (λ (n : ℕ). drop n (byte ∷ text)) further

-- what is behind the first such byte is what stands after it
pub behind-after : (mark : ℕ) (text : List ℕ) → behind mark text ≡ after_first (λ byte. byte == mark) text
behind-after mark [] = refl
behind-after mark (byte ∷ text) =
    step_back (byte == mark) byte text (behind mark text) (position_or_len (λ other. other == mark) text) (behind-after mark text)

-- what is before it begins with a byte that is no such byte
before_cons : (first : Bool) (byte : ℕ) (text : List ℕ) (k : ℕ) → take (cond (not first) (1 + k) 0) (byte ∷ text) ≡ cond first [] (byte ∷ take k text)
before_cons true byte text k = refl
before_cons false byte text k =
    let one : 1 + k ≡ suc k = omega arith in
    ap (λ (n : ℕ). take n (byte ∷ text)) one

-- it is what is in front of the byte
before_front : (mark : ℕ) (text : List ℕ) → before mark text ≡ front_of mark text
before_front mark [] = refl
before_front mark (byte ∷ text) =
    before_cons (byte == mark) byte text (position_or_len (λ other. other == mark) text)
    ∙ ap (λ (rest : List ℕ). cond (byte == mark) [] (byte ∷ rest)) (before_front mark text)

-- what is before the byte, where the text in front of it lacks it
pub before-cut : (mark : ℕ) (text rest : List ℕ) → Lacks mark text → before mark (text ++ mark ∷ rest) ≡ text
before-cut mark text rest lacks = before_front mark (text ++ mark ∷ rest) ∙ front_of-cut mark text rest lacks

-- where something is behind such a byte, the text is what is before it, the byte and what is behind it
whole_step : (first : Bool) (mark byte : ℕ) (text : List ℕ) → (byte == mark) ≡ first → cond first text (behind mark text) ≢ []
    → (behind mark text ≢ [] → text ≡ front_of mark text ++ mark ∷ behind mark text)
    → byte ∷ text ≡ cond first [] (byte ∷ front_of mark text) ++ mark ∷ cond first text (behind mark text)
whole_step true mark byte text is some whole = ap (λ (b : ℕ). b ∷ text) (eqb-true byte mark is)
whole_step false mark byte text is some whole = ap (λ (rest : List ℕ). byte ∷ rest) (whole some)

whole_front : (mark : ℕ) (text : List ℕ) → behind mark text ≢ [] → text ≡ front_of mark text ++ mark ∷ behind mark text
whole_front mark [] some = absurd (some refl)
whole_front mark (byte ∷ text) some = whole_step (byte == mark) mark byte text refl some (whole_front mark text)

pub cut_whole : (mark : ℕ) (text : List ℕ) → behind mark text ≢ [] → text ≡ before mark text ++ mark ∷ behind mark text
cut_whole mark text some =
    whole_front mark text some ∙ ap (λ (front : List ℕ). front ++ mark ∷ behind mark text) (sym (before_front mark text))
