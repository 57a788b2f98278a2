-- Commands, appended word by word.
use Rattle.cif_writing.proofs.Common.{◌≡◌, ℕ, ℤ, Bool, false, List, [], ◌∷◌, ◌++◌, map, refl, sym, ap, ◌∙◌, append_assoc, append-nil, text_of, Rect}
use Rattle.cif_writing.proofs.Common.{Transform, start_command, name_command, box_command, call_command, plain_call}
use Rattle.std.proofs.Common.{pos, ◌+ℤ◌, ◌*ℤ◌}
use Rattle.std.specs.Prelude.{◌-ℤ◌, codes, if◌then◌else◌}
use Rattle.text_scan.specs.Decimal.{decimal, natural_text}
use Rattle.text_scan.specs.Written.{line_of, behind_blanks}
use Rattle.text_scan.proofs.WrittenLemmas.{blanks-append, line-words}
use Rattle.geo_core.specs.declared.orients.Orient.{Orient}
use Rattle.cif_writing.specs.Commands.{command, layer_command, direction, stays}
use Rattle.cif_writing.specs.Commands.{mirror_words, turn_words, shift_words, end_line}

-- what is appended to what has been appended
behind : (a b c x y : List ℕ) → b ≡ a ++ x → c ≡ b ++ y → c ≡ a ++ (x ++ y)
behind a b c x y hb hc = hc ∙ ap (λ (v : List ℕ). v ++ y) hb ∙ append_assoc a x y

-- a command is its first word, the others behind blanks, and its end
command_text : (word : List ℕ) (words : List (List ℕ)) → text_of (command (word ∷ words) ∷ []) ≡ word ++ (behind_blanks words ++ codes ";\n")
command_text word words =
    append_assoc (line_of (word ∷ words)) (codes ";") (10 ∷ [])
    ∙ ap (λ (v : List ℕ). v ++ codes ";\n") (line-words word words)
    ∙ append_assoc word (behind_blanks words) (codes ";\n")

-- a command, appended as such
command_appended : (word : List ℕ) (words : List (List ℕ)) (out a b c : List ℕ) → a ≡ out ++ word → b ≡ a ++ behind_blanks words
    → c ≡ b ++ codes ";\n" → c ≡ out ++ text_of (command (word ∷ words) ∷ [])
command_appended word words out a b c ha hb hc =
    behind out a c word (behind_blanks words ++ codes ";\n") ha (behind a b c (behind_blanks words) (codes ";\n") hb hc)
    ∙ ap (λ (v : List ℕ). out ++ v) (sym (command_text word words))

-- the call of a symbol as it is, and the end of the text
pub end_appended : (number : ℕ) (out a b c d : List ℕ) → a ≡ out ++ codes "C" → b ≡ a ++ 32 ∷ decimal (pos number) → c ≡ b ++ codes ";\n"
    → d ≡ c ++ codes "E\n" → d ≡ out ++ text_of (plain_call number ∷ end_line ∷ [])
end_appended number out a b c d ha hb hc hd =
    behind out c d (text_of (plain_call number ∷ [])) (codes "E\n")
    (command_appended (codes "C") (decimal (pos number) ∷ []) out a b c ha
    (hb ∙ ap (λ (v : List ℕ). a ++ v) (sym (append-nil (32 ∷ decimal (pos number))))) hc) hd
    ∙ ap (λ (v : List ℕ). out ++ v) (append_assoc (plain_call number) (10 ∷ []) (codes "E\n"))

-- a name
pub name_appended : (name : List ℕ) (out a b c : List ℕ) → a ≡ out ++ 57 ∷ [] → b ≡ a ++ 32 ∷ name → c ≡ b ++ codes ";\n"
    → c ≡ out ++ text_of (name_command name ∷ [])
name_appended name out a b c ha hb hc =
    command_appended (codes "9") (name ∷ []) out a b c ha (hb ∙ ap (λ (v : List ℕ). a ++ v) (sym (append-nil (32 ∷ name)))) hc

ones : behind_blanks (map decimal (pos 1 ∷ pos 2 ∷ [])) ≡ codes " 1 2"
unfolding decimal natural_text
ones = refl

-- the start of a symbol
pub start_appended : (number : ℕ) (out a b c : List ℕ) → a ≡ out ++ codes "DS" → b ≡ a ++ 32 ∷ decimal (pos number) → c ≡ b ++ codes " 1 2;\n"
    → c ≡ out ++ text_of (start_command number ∷ [])
start_appended number out a b c ha hb hc =
    behind out a c (codes "DS") ((32 ∷ decimal (pos number)) ++ codes " 1 2;\n") ha (behind a b c (32 ∷ decimal (pos number)) (codes " 1 2;\n") hb hc)
    ∙ ap (λ (v : List ℕ). out ++ v) (sym start_text)
  where
    start_text : text_of (start_command number ∷ []) ≡ codes "DS" ++ ((32 ∷ decimal (pos number)) ++ codes " 1 2;\n")
    start_text =
        command_text (codes "DS") (map decimal (pos number ∷ pos 1 ∷ pos 2 ∷ []))
        ∙ ap (λ (v : List ℕ). codes "DS" ++ v)
        (append_assoc (32 ∷ decimal (pos number)) (behind_blanks (map decimal (pos 1 ∷ pos 2 ∷ []))) (codes ";\n")
        ∙ ap (λ (v : List ℕ). (32 ∷ decimal (pos number)) ++ (v ++ codes ";\n")) ones)

-- a box
pub box_appended : (area : Rect) (out a b c d e f : List ℕ) → a ≡ out ++ codes "B" → b ≡ a ++ 32 ∷ decimal (pos 2 *ℤ (area.xhi -ℤ area.xlo))
    → c ≡ b ++ 32 ∷ decimal (pos 2 *ℤ (area.yhi -ℤ area.ylo)) → d ≡ c ++ 32 ∷ decimal (area.xlo +ℤ area.xhi)
    → e ≡ d ++ 32 ∷ decimal (area.ylo +ℤ area.yhi) → f ≡ e ++ codes ";\n" → f ≡ out ++ text_of (box_command area ∷ [])
box_appended area out a b c d e f ha hb hc hd he hf =
    let l = 32 ∷ decimal (pos 2 *ℤ (area.xhi -ℤ area.xlo)) in
    let w = 32 ∷ decimal (pos 2 *ℤ (area.yhi -ℤ area.ylo)) in
    let x = 32 ∷ decimal (area.xlo +ℤ area.xhi) in
    let y = 32 ∷ decimal (area.ylo +ℤ area.yhi) in
    let words = map decimal
    ((pos 2 *ℤ (area.xhi -ℤ area.xlo)) ∷ (pos 2 *ℤ (area.yhi -ℤ area.ylo)) ∷ (area.xlo +ℤ area.xhi) ∷ (area.ylo +ℤ area.yhi) ∷ []) in
    let last : e ≡ d ++ (y ++ []) = he ∙ ap (λ (v : List ℕ). d ++ v) (sym (append-nil y)) in
    let numbers : e ≡ a ++ behind_blanks words = behind a b e l (w ++ (x ++ (y ++ []))) hb
    (behind b c e w (x ++ (y ++ [])) hc (behind c d e x (y ++ []) hd last)) in
    command_appended (codes "B") words out a e f ha numbers hf

-- a layer
pub layer_appended : (part : ℕ) (z : ℤ) (out a b c : List ℕ) → z ≡ pos part → a ≡ out ++ codes "L P" → b ≡ a ++ decimal z → c ≡ b ++ codes ";\n"
    → c ≡ out ++ text_of (layer_command part ∷ [])
layer_appended part z out a b c is ha hb hc =
    behind out a c (codes "L P") (decimal (pos part) ++ codes ";\n") ha
    (behind a b c (decimal (pos part)) (codes ";\n") (hb ∙ ap (λ (n : ℤ). a ++ decimal n) is) hc)
    ∙ ap (λ (v : List ℕ). out ++ (codes "L P" ++ v)) (sym (ap (λ (v : List ℕ). v ++ codes ";\n") (append-nil (decimal (pos part)))))
    ∙ ap (λ (v : List ℕ). out ++ v) (sym (command_text (codes "L") ((codes "P" ++ decimal (pos part)) ∷ [])))

-- a turn
pub turn_appended : (orient : Orient) (out a b : List ℕ) → stays orient ≡ false → a ≡ out ++ codes " R"
    → b ≡ a ++ behind_blanks (map decimal ((direction orient).0 ∷ (direction orient).1 ∷ [])) → b ≡ out ++ behind_blanks (turn_words orient)
turn_appended orient out a b turned ha hb =
    let words = codes "R" ∷ map decimal ((direction orient).0 ∷ (direction orient).1 ∷ []) in
    let same : words ≡ turn_words orient = ap (λ (still : Bool). if still then [] else words) (sym turned) in
    behind out a b (codes " R") (behind_blanks (map decimal ((direction orient).0 ∷ (direction orient).1 ∷ []))) ha hb
    ∙ ap (λ (w : List (List ℕ)). out ++ behind_blanks w) same

-- a displacement
pub shift_appended : (element : Transform) (out a b c : List ℕ) → a ≡ out ++ codes " T" → b ≡ a ++ 32 ∷ decimal (pos 2 *ℤ element.dx)
    → c ≡ b ++ 32 ∷ decimal (pos 2 *ℤ element.dy) → c ≡ out ++ behind_blanks (shift_words element)
shift_appended element out a b c ha hb hc =
    let x = 32 ∷ decimal (pos 2 *ℤ element.dx) in
    let y = 32 ∷ decimal (pos 2 *ℤ element.dy) in
    let last : c ≡ b ++ (y ++ []) = hc ∙ ap (λ (v : List ℕ). b ++ v) (sym (append-nil y)) in
    behind out a c (codes " T") (x ++ (y ++ [])) ha (behind a b c x (y ++ []) hb last)

-- a call
pub call_appended : (number : ℕ) (element : Transform) (out a b c d e f : List ℕ) → a ≡ out ++ codes "C" → b ≡ a ++ 32 ∷ decimal (pos number)
    → c ≡ b ++ behind_blanks (mirror_words element.orient) → d ≡ c ++ behind_blanks (turn_words element.orient)
    → e ≡ d ++ behind_blanks (shift_words element) → f ≡ e ++ codes ";\n" → f ≡ out ++ text_of (call_command number element ∷ [])
call_appended number element out a b c d e f ha hb hc hd he hf =
    let mirror = mirror_words element.orient in
    let turn = turn_words element.orient in
    let shift = shift_words element in
    let words = (32 ∷ decimal (pos number)) ++ (behind_blanks mirror ++ (behind_blanks turn ++ behind_blanks shift)) in
    let appended : e ≡ a ++ words =
    behind a b e (32 ∷ decimal (pos number)) (behind_blanks mirror ++ (behind_blanks turn ++ behind_blanks shift)) hb
    (behind b c e (behind_blanks mirror) (behind_blanks turn ++ behind_blanks shift) hc (behind c d e (behind_blanks turn) (behind_blanks shift) hd he)) in
    let same : behind_blanks (decimal (pos number) ∷ (mirror ++ (turn ++ shift))) ≡ words =
    ap (λ (v : List ℕ). (32 ∷ decimal (pos number)) ++ v)
    (blanks-append mirror (turn ++ shift) ∙ ap (λ (v : List ℕ). behind_blanks mirror ++ v) (blanks-append turn shift)) in
    command_appended (codes "C") (decimal (pos number) ∷ (mirror ++ (turn ++ shift))) out a e f ha (appended ∙ ap (λ (v : List ℕ). a ++ v) (sym same)) hf
