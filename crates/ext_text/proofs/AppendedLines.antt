-- What is appended, one part behind the other, is the line or the text.
use Rattle.ext_text.proofs.Common.{◌≡◌, ℕ, ℤ, pos, List, ◌++◌, map, sym, ◌∙◌, ap, subst, codes, flat_map, decimal, behind_blanks, FetRec, MergeRow}
use Rattle.ext_text.proofs.Common.{nodes_text, use_words, term_words, fet_words, merge_words}
use Rattle.std.proofs.Common.{◌≢◌, ◌+◌, [], ◌∷◌, length, refl}
use Rattle.std.proofs.Common.{arith, append_assoc}
use Rattle.std.specs.Prelude.{Result, Err, IfErr}
use Rattle.std.proofs.lemmas.List.{length-append}
use Rattle.text_scan.specs.Written.{line_of}
use Rattle.text_scan.proofs.WrittenLemmas.{blanks-append, line-words}
use Rattle.ext_model.specs.declared.records.NodeRec.{NodeRec}
use Rattle.ext_model.specs.declared.records.TermRec.{TermRec}
use Rattle.ext_model.specs.declared.arrays.ArrayUse.{ArrayUse}
use Rattle.ext_model.specs.declared.arrays.ArrayExt.{ArrayExt}
use Rattle.ext_model.specs.declared.circuits.Circuit.{Circuit}
use Rattle.ext_text.specs.declared.faults.ExtFault.{ExtFault}
use Rattle.ext_text.specs.declared.faults.ExtFault.TheVariants.{Memory}
use Rattle.ext_text.specs.NodeLines.{quoted, measure_words, node_line}
use Rattle.ext_text.specs.steps.Appended.{whole_line}
use Rattle.ext_text.specs.WrittenTexts.{header_words, use_name, node_lines, square_words}
use Rattle.ext_text.specs.WrittenTexts.{row_path}
use Rattle.ext_text.specs.WrittenTexts.{lines_text, ext_text, flat_text, IsTooLong}

-- ---- words

-- ---- lines

-- the text of one line
lines-one : (words : List (List ℕ)) → lines_text (words ∷ []) ≡ whole_line words
unfolding lines_text
lines-one words = refl

lines-none : lines_text [] ≡ []
unfolding lines_text
lines-none = refl

-- the text of the lines of two lists
lines-append : (xs ys : List (List (List ℕ))) → lines_text (xs ++ ys) ≡ lines_text xs ++ lines_text ys
unfolding lines_text
lines-append [] ys = refl
lines-append (x ∷ xs) ys =
    ap (λ (rest : List ℕ). line_of x ++ 10 ∷ rest) (lines-append xs ys)
    ∙ sym (append_assoc (line_of x) (10 ∷ lines_text xs) (lines_text ys))

-- the lines of nodes
nodes-text : (nodes : List NodeRec) → lines_text (flat_map node_lines nodes) ≡ nodes_text nodes
nodes-text [] = lines-none
nodes-text (node ∷ nodes) =
    lines-append (node_lines node) (flat_map node_lines nodes) ∙ ap (λ v. lines_text (node_lines node) ++ v) (nodes-text nodes)

-- ---- lines and texts by their parts

-- what is appended to what has been appended
pub then : (a b c x y : List ℕ) → b ≡ a ++ x → c ≡ b ++ y → c ≡ a ++ (x ++ y)
then a b c x y hb hc = hc ∙ ap (λ v. v ++ y) hb ∙ append_assoc a x y

-- a word, or a name between quotes, that is taken from somewhere
pub word_of : (a b word name : List ℕ) → b ≡ a ++ 32 ∷ word → word ≡ name → b ≡ a ++ 32 ∷ name
word_of a b word name hb is = hb ∙ ap (λ w. a ++ 32 ∷ w) is

pub quoted_of : (a b word name : List ℕ) → b ≡ a ++ 32 ∷ quoted word → word ≡ name → b ≡ a ++ 32 ∷ quoted name
quoted_of a b word name hb is = hb ∙ ap (λ w. a ++ 32 ∷ quoted w) is

-- a line with its end
pub line_written : (words : List (List ℕ)) (out a b : List ℕ) → a ≡ out ++ line_of words → b ≡ a ++ 10 ∷ [] → b ≡ out ++ whole_line words
line_written words out a b ha hb = then out a b (line_of words) (10 ∷ []) ha hb

pub node_appended : (node : NodeRec) (name kind : List ℕ) (measures : List (ℤ × ℤ)) (out a b c d e f g h : List ℕ)
    → a ≡ out ++ codes "node" → b ≡ a ++ 32 ∷ quoted name → name ≡ node.name → c ≡ b ++ codes " 0" → d ≡ c ++ 32 ∷ decimal node.cap
    → e ≡ d ++ 32 ∷ decimal node.x → f ≡ e ++ 32 ∷ decimal node.y → g ≡ f ++ 32 ∷ kind → kind ≡ node.kind
    → h ≡ g ++ behind_blanks (measure_words measures) → measures ≡ node.measures → h ≡ out ++ node_line node
unfolding node_line
node_appended node name kind measures out a b c d e f g h ha hb n hc hd he hf hg k hh m =
    let words = quoted node.name ∷ codes "0" ∷ decimal node.cap ∷ decimal node.x ∷ decimal node.y ∷ node.kind ∷ measure_words node.measures in
    let last = hh ∙ ap (λ (list : List (ℤ × ℤ)). g ++ behind_blanks (measure_words list)) m in
    then out a h _ _ ha
    (then a b h _ _ (quoted_of a b name node.name hb n)
    (then b c h _ _ hc (then c d h _ _ hd (then d e h _ _ he (then e f h _ _ hf (then f g h _ _ (word_of f g kind node.kind hg k) last))))))
    ∙ ap (λ v. out ++ v) (sym (line-words (codes "node") words))

pub use_appended : (used : ArrayUse) (cell id : List ℕ) (out a b c d : List ℕ) → a ≡ out ++ codes "use" → b ≡ a ++ 32 ∷ cell → cell ≡ used.cell
    → c ≡ b ++ 32 ∷ use_name id used.grid → id ≡ used.id → d ≡ c ++ behind_blanks (map decimal used.six) → d ≡ out ++ line_of (use_words used)
use_appended used cell id out a b c d ha hb n hc m hd =
    let name = hc ∙ ap (λ (text : List ℕ). b ++ 32 ∷ use_name text used.grid) m in
    then out a d _ _ ha (then a b d _ _ (word_of a b cell used.cell hb n) (then b c d (32 ∷ use_name used.id used.grid) _ name hd))
    ∙ ap (λ v. out ++ v) (sym (line-words (codes "use") (used.cell ∷ use_name used.id used.grid ∷ map decimal used.six)))

pub fet_appended : (fet : FetRec) (kind substrate : List ℕ) (terminals : List TermRec) (out a b c d e f g h : List ℕ) → a ≡ out ++ codes "fet"
    → b ≡ a ++ 32 ∷ kind
    → kind ≡ fet.kind → c ≡ b ++ behind_blanks (square_words fet) → d ≡ c ++ 32 ∷ decimal fet.area → e ≡ d ++ 32 ∷ decimal fet.perimeter
    → f ≡ e ++ 32 ∷ quoted substrate → substrate ≡ fet.substrate → g ≡ f ++ behind_blanks (term_words fet.gate)
    → h ≡ g ++ behind_blanks (flat_map term_words terminals) → terminals ≡ fet.terminals → h ≡ out ++ line_of (fet_words fet)
fet_appended fet kind substrate terminals out a b c d e f g h ha hb k hc hd he hf s hg hh t =
    let sides = term_words fet.gate ++ flat_map term_words fet.terminals in
    let rest = decimal fet.area ∷ decimal fet.perimeter ∷ quoted fet.substrate ∷ sides in
    let last = hh ∙ ap (λ (list : List TermRec). g ++ behind_blanks (flat_map term_words list)) t in
    let whole = line-words (codes "fet") (fet.kind ∷ square_words fet ++ rest) ∙ ap (λ v. codes "fet" ++ ((32 ∷ fet.kind) ++ v))
    (blanks-append (square_words fet) rest ∙ ap (λ v. behind_blanks (square_words fet) ++ ((32 ∷ decimal fet.area) ++ ((32 ∷ decimal fet.perimeter) ++
    ((32 ∷ quoted fet.substrate) ++ v))))
    (blanks-append (term_words fet.gate) (flat_map term_words fet.terminals))) in
    then out a h _ _ ha
    (then a b h _ _ (word_of a b kind fet.kind hb k)
    (then b c h _ _ hc (then c d h _ _ hd (then d e h _ _ he (then e f h _ _ (quoted_of e f substrate fet.substrate hf s) (then f g h _ _ hg last))))))
    ∙ ap (λ v. out ++ v) (sym whole)

-- a path with a range of indices
pub ranged_appended : (front back : List ℕ) (lo hi : ℤ) (out a b c d e f g : List ℕ) → a ≡ out ++ front → b ≡ a ++ 91 ∷ [] → c ≡ b ++ decimal lo
    → d ≡ c ++ 58 ∷ [] → e ≡ d ++ decimal hi → f ≡ e ++ 44 ∷ [] → g ≡ f ++ back
    → g ≡ out ++ (front ++ 91 ∷ (decimal lo ++ 58 ∷ (decimal hi ++ 44 ∷ back)))
ranged_appended front back lo hi out a b c d e f g ha hb hc hd he hf hg =
    then out a g _ _ ha (then a b g _ _ hb (then b c g _ _ hc (then c d g _ _ hd (then d e g _ _ he (then e f g _ _ hf hg)))))

pub merge_appended : (row : MergeRow) (first second : List ℕ) (measures : List (ℤ × ℤ)) (out a b c d e : List ℕ) → a ≡ out ++ codes "merge"
    → b ≡ a ++ 32 ∷ quoted first
    → first ≡ row.first → c ≡ b ++ 32 ∷ quoted (row_path second row.count) → second ≡ row.second → d ≡ c ++ 32 ∷ decimal row.cap
    → e ≡ d ++ behind_blanks (measure_words measures) → measures ≡ row.measures → e ≡ out ++ line_of (merge_words row)
merge_appended row first second measures out a b c d e ha hb n hc m hd he s =
    let path = row_path row.second row.count in
    let last = he ∙ ap (λ (list : List (ℤ × ℤ)). d ++ behind_blanks (measure_words list)) s in
    let to = hc ∙ ap (λ (text : List ℕ). b ++ 32 ∷ quoted (row_path text row.count)) m in
    then out a e _ _ ha
    (then a b e _ _ (quoted_of a b first row.first hb n) (then b c e (32 ∷ quoted path) _ to (then c d e _ _ hd last)))
    ∙ ap (λ v. out ++ v) (sym (line-words (codes "merge") (quoted row.first ∷ quoted path ∷ decimal row.cap ∷ measure_words row.measures)))

header-parts : (version tech classes : List ℕ)
    → codes "tech" ++ ((32 ∷ tech) ++ (codes "\ntimestamp 0\nversion" ++ ((32 ∷ version) ++ (codes "\nstyle" ++ ((32 ∷ tech)
    ++ (codes "\nscale 1 1 1\nresistclasses" ++ (behind_blanks (map (λ value. decimal (pos value)) classes) ++ 10 ∷ [])))))))
    ≡ lines_text (header_words version tech classes)
unfolding lines_text
header-parts version tech classes =
    ap (λ v. codes "tech" ++ ((32 ∷ tech) ++ (codes "\ntimestamp 0\nversion" ++ ((32 ∷ version) ++ (codes "\nstyle" ++ ((32 ∷ tech)
    ++ (codes "\nscale 1 1 1\n" ++ (v ++ 10 ∷ []))))))))
    (sym (line-words (codes "resistclasses") (map (λ value. decimal (pos value)) classes)))

pub header_written : (version tech one other classes : List ℕ) (out a b c d e f g h i : List ℕ) → a ≡ out ++ codes "tech" → b ≡ a ++ 32 ∷ one → one ≡ tech
    → c ≡ b ++ codes "\ntimestamp 0\nversion" → d ≡ c ++ 32 ∷ version → e ≡ d ++ codes "\nstyle" → f ≡ e ++ 32 ∷ other → other ≡ tech
    → g ≡ f ++ codes "\nscale 1 1 1\nresistclasses" → h ≡ g ++ behind_blanks (map (λ value. decimal (pos value)) classes) → i ≡ h ++ 10 ∷ []
    → i ≡ out ++ lines_text (header_words version tech classes)
header_written version tech one other classes out a b c d e f g h i ha hb n hc hd he hf m hg hh hi =
    then out a i _ _ ha
    (then a b i _ _ (word_of a b one tech hb n) (then b c i _ _ hc (then c d i _ _ hd (then d e i _ _ he
    (then e f i _ _ (word_of e f other tech hf m) (then f g i _ _ hg (then g h i _ _ hh hi)))))))
    ∙ ap (λ v. out ++ v) (header-parts version tech classes)

-- the whole files
pub ext_written : (ext : ArrayExt) (out a b c d e : List ℕ) → out ≡ [] → a ≡ out ++ lines_text (header_words (codes "2") ext.tech ext.classes)
    → b ≡ a ++ lines_text (map use_words ext.uses) → c ≡ b ++ nodes_text ext.nodes → d ≡ c ++ lines_text (map fet_words ext.fets)
    → e ≡ d ++ lines_text (map merge_words ext.merges) → e ≡ ext_text ext
ext_written ext out a b c d e ho ha hb hc hd he =
    let header = header_words (codes "2") ext.tech ext.classes in
    let uses = map use_words ext.uses in
    let nodes = flat_map node_lines ext.nodes in
    let fets = map fet_words ext.fets in
    let merges = map merge_words ext.merges in
    let parts = lines-append header (uses ++ (nodes ++ (fets ++ merges))) ∙ ap (λ v. lines_text header ++ v) (lines-append uses (nodes ++ (fets ++ merges))
    ∙ ap (λ v. lines_text uses ++ v) (lines-append nodes (fets ++ merges) ∙ ap (λ v. v ++ lines_text (fets ++ merges)) (nodes-text ext.nodes)
    ∙ ap (λ v. nodes_text ext.nodes ++ v) (lines-append fets merges))) in
    then out a e _ _ ha (then a b e _ _ hb (then b c e _ _ hc (then c d e _ _ hd he))) ∙ ap (λ v. out ++ v) (sym parts) ∙ ap (λ v. v ++ ext_text ext) ho

flat-parts : (circuit : Circuit) → flat_text circuit
    ≡ lines_text (header_words (codes "1") circuit.tech circuit.classes)
    ++ (nodes_text circuit.nodes ++ lines_text (map fet_words circuit.fets))
flat-parts circuit =
    let nodes = flat_map node_lines circuit.nodes in
    let fets = map fet_words circuit.fets in
    lines-append (header_words (codes "1") circuit.tech circuit.classes) (nodes ++ fets)
    ∙ ap (λ v. lines_text (header_words (codes "1") circuit.tech circuit.classes) ++ v) (lines-append nodes fets ∙ ap (λ v. v ++ lines_text fets) (nodes-text circuit.nodes))

pub flat_written : (circuit : Circuit) (out a b c : List ℕ) → a ≡ out ++ lines_text (header_words (codes "1") circuit.tech circuit.classes)
    → b ≡ a ++ nodes_text circuit.nodes → c ≡ b ++ lines_text (map fet_words circuit.fets) → c ≡ out ++ flat_text circuit
flat_written circuit out a b c ha hb hc = then out a c _ _ ha (then a b c _ _ hb hc) ∙ ap (λ v. out ++ v) (sym (flat-parts circuit))

-- ---- texts that are too long

-- the answer that is passed on
pub passed_on : {T : Type 0} (answer : Result T ExtFault) (fault : ExtFault) (whole : List ℕ) → (y : ExtFault) × (answer ≡ Err y) × (y ≡ fault)
    → (fault ≢ Memory → IsTooLong fault whole) → IfErr answer (λ told. told ≢ Memory → IsTooLong told whole)
passed_on answer fault whole given told =
    subst (λ r. IfErr r (λ f. f ≢ Memory → IsTooLong f whole)) (sym given.1) (subst (λ f. f ≢ Memory → IsTooLong f whole) (sym given.2) told)

-- a text that is too long already is too long with more behind it
too_long-more : (fault : ExtFault) (text more whole : List ℕ) → text ++ more ≡ whole → IsTooLong fault text → IsTooLong fault whole
too_long-more fault text more whole is long =
    let count : length (text ++ more) ≡ length text + length more = length-append text more in
    subst (IsTooLong fault) is (long.0, omega (arith, long.1, count))

pub nodes_too_long : (circuit : Circuit) (fault : ExtFault) (out a text : List ℕ)
    → a ≡ out ++ lines_text (header_words (codes "1") circuit.tech circuit.classes)
    → text ≡ a ++ nodes_text circuit.nodes → IsTooLong fault text → IsTooLong fault (out ++ flat_text circuit)
nodes_too_long circuit fault out a text ha ht long =
    too_long-more fault text (lines_text (map fet_words circuit.fets)) (out ++ flat_text circuit)
    (flat_written circuit out a text (text ++ lines_text (map fet_words circuit.fets)) ha ht refl) long
