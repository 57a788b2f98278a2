-- A circuit file that is read spells its record.
use Rattle.file_laws.proofs.Common.{◌≡◌, ◌+◌, ◌&&◌, ◌==◌, ℕ, ℤ, zero, suc, Bool, true, false, cond, not, Option, List, [], ◌∷◌, ◌++◌, Result, Ok}
use Rattle.file_laws.proofs.Common.{Err, refl, sym, ap, ◌∙◌, subst, append_assoc, append-nil, lines_of, At, and_then, FetRec, MergeRow, ExtReadFault}
use Rattle.file_laws.proofs.Common.{NoHeader, HeaderLine, Tech, Timestamp, Version, Style, Scale, Classes, NodeLine, FetLine, MergeLine, ExtLine}
use Rattle.file_laws.proofs.Common.{Nothing, Header, Use, Node, Equiv, Fet, Merge, Outline, IsUseOf, IsNodeOf}
use Rattle.std.specs.Prelude.{Some, None, filter_map}
use Rattle.finite_sets.specs.OneForOne.{AreOneForOne}
use Rattle.finite_sets.proofs.OneForOne.{AreOneForOne-push}
use Rattle.text_form.specs.Folds.{first_fault_or}
use Rattle.text_form.specs.SaidLines.{AreSaid}
use Rattle.text_form.proofs.FoldLaws.{passed, text_state-Ok}
use Rattle.ext_model.specs.declared.records.NodeRec.{NodeRec}
use Rattle.ext_model.specs.declared.arrays.ArrayExt.{ArrayExt}
use Rattle.ext_reading.specs.declared.lines.Version as lines
use Rattle.ext_reading.specs.LineForms.{says}
use Rattle.ext_reading.specs.Ranges.{class_values_in}
use Rattle.ext_reading.specs.Drafts.{Draft, nothing_yet, step, finish, is_incomplete, takes, with_alias_at, fet_from, merge_from, range_in}
use Rattle.ext_reading.specs.ExtTexts.{outline_of, draft_in, record_of, ext_in}
use Rattle.ext_reading.proofs.Outcomes.{value_has}
use Rattle.file_laws.specs.CircuitFiles.{tech_said, version_said, classes_said, use_said, node_said, fet_said, merge_said}
use Rattle.file_laws.specs.CircuitFiles.{IsSpelled}
use Rattle.file_laws.proofs.LineGains.{HeaderGains, Gains, takes-gains}

-- lines that say this, one after the other, lead from one draft to another
abbrev pub Leads : Draft → List ExtLine → Draft → Type 0
Leads draft [] last = draft ≡ last
Leads draft (line ∷ said) last = (next : Draft) × Gains draft line next × Leads next said last

told : (found : Result ExtLine ExtReadFault) (takes_it : ExtLine → Result Draft ExtReadFault) (next : Draft)
    → and_then found takes_it ≡ Ok next → (said : ExtLine) × (found ≡ Ok said) × (takes_it said ≡ Ok next)
told (Ok said) takes_it next e = (said, refl, e)
told (Err fault) takes_it next e = absurd (let no : ⊥ = cc in no)

-- lines without fault say what leads to the last draft
lines_lead : (outline : Outline) (number : ℕ) (draft : Draft) (lines : List (List ℕ)) (last : Draft)
    → first_fault_or (step outline) number draft lines ≡ Ok last
    → (said : List ExtLine) × AreSaid (λ k. says) number lines said × Leads draft said last
lines_lead outline number draft [] last e = ([], tt, (let is : draft ≡ last = cc in is))
lines_lead outline number draft (line ∷ lines) last e =
    let p = passed number (step outline number draft line) (λ next. first_fault_or (step outline) (number + 1) next lines) last e in
    let is_last = number == outline.last in
    let t = told (says line) (takes outline is_last draft) p.0 p.1 in
    let rest = lines_lead outline (number + 1) p.0 lines last p.2 in
    let gains = value_has (Gains draft t.0) (takes outline is_last draft t.0) p.0 (takes-gains outline is_last draft t.0) t.2 in
    (t.0 ∷ rest.0, (t.1, rest.1), (p.0, gains, rest.2))

-- behind the header the version stays
version_stays : (draft : Draft) (line : ExtLine) (next : Draft) → Gains draft line next → draft.begun ≡ true
    → (next.begun ≡ true) × (next.version ≡ draft.version)
version_stays draft Nothing next gains begun = (ap (λ d. d.begun) gains ∙ begun, ap (λ d. d.version) gains)
version_stays draft (Header header) next gains begun = absurd (let early = gains.0 in let no : ⊥ = cc in no)
version_stays draft (Use line) next gains begun = (ap (λ d. d.begun) gains.2, ap (λ d. d.version) gains.2)
version_stays draft (Node line) next gains begun = (ap (λ d. d.begun) gains.2, ap (λ d. d.version) gains.2)
version_stays draft (Equiv name alias) next gains begun = (ap (λ d. d.begun) gains.1, ap (λ d. d.version) gains.1)
version_stays draft (Fet line) next gains begun = (ap (λ d. d.begun) gains.2, ap (λ d. d.version) gains.2)
version_stays draft (Merge line) next gains begun = (ap (λ d. d.begun) gains.2, ap (λ d. d.version) gains.2)

version_is_last : (draft : Draft) (said : List ExtLine) (last : Draft) → Leads draft said last → draft.begun ≡ true → draft.version ≡ last.version
version_is_last draft [] last leads begun = ap (λ d. d.version) leads
version_is_last draft (line ∷ said) last leads begun =
    let stays = version_stays draft line leads.0 leads.1 begun in
    sym stays.1 ∙ version_is_last leads.0 said last leads.2 stays.0

-- the list, and what a line says behind it
abbrev pub with_said : {X : Type 0} → List X → Option X → List X
with_said xs None = xs
with_said xs (Some x) = xs ++ x ∷ []

said_first : {X : Type 0} (xs : List X) (said : ExtLine) (rest : List ExtLine) (said_of : ExtLine → Option X) (found : Option X) → said_of said ≡ found
    → with_said xs (said_of said) ++ filter_map said_of rest ≡ xs ++ filter_map said_of (said ∷ rest)
said_first {X} xs said rest said_of None is =
    let more = filter_map said_of rest in
    let none : filter_map said_of (said ∷ rest) ≡ more = cc in
    ap (λ (o : Option X). with_said xs o ++ more) is ∙ sym (ap (λ (l : List X). xs ++ l) none)
said_first {X} xs said rest said_of (Some x) is =
    let more = filter_map said_of rest in
    let one : filter_map said_of (said ∷ rest) ≡ x ∷ more = cc in
    ap (λ (o : Option X). with_said xs o ++ more) is ∙ (append_assoc xs (x ∷ []) more ∙ sym (ap (λ (l : List X). xs ++ l) one))

-- what one line does for such a list of the draft, where the version behind the header is this one
abbrev pub Follows : {X Y : Type 0} → (X → Y → Type 0) → (ExtLine → Option X) → (Draft → List Y) → Option lines.Version → Type 0
Follows {X} R said_of list_of version =
    (draft : Draft) (line : ExtLine) (next : Draft) → Gains draft line next → (next.begun ≡ true → next.version ≡ version)
    → (xs : List X) → AreOneForOne R xs (list_of draft) → AreOneForOne R (with_said xs (said_of line)) (list_of next)

-- and all lines
follow : {X Y : Type 0} (R : X → Y → Type 0) (said_of : ExtLine → Option X) (list_of : Draft → List Y) (last : Draft) → Follows R said_of list_of last.version
    → (draft : Draft) (said : List ExtLine) → Leads draft said last → (xs : List X) → AreOneForOne R xs (list_of draft)
    → AreOneForOne R (xs ++ filter_map said_of said) (list_of last)
follow {X} {Y} R said_of list_of last each draft [] leads xs are =
    let whole = subst (λ (d : Draft). AreOneForOne R xs (list_of d)) leads are in
    subst (λ (l : List X). AreOneForOne R l (list_of last)) (sym (append-nil xs)) whole
follow {X} {Y} R said_of list_of last each draft (line ∷ said) leads xs are =
    let next = leads.0 in
    let more = each draft line next leads.1 (version_is_last next said last leads.2) xs are in
    let rest = follow R said_of list_of last each next said leads.2 (with_said xs (said_of line)) more in
    subst (λ (l : List X). AreOneForOne R l (list_of last)) (said_first xs line said said_of (said_of line) refl) rest

-- another list, which is the same
same : {X Y : Type 0} (R : X → Y → Type 0) (xs : List X) {ys others : List Y} → others ≡ ys → AreOneForOne R xs ys → AreOneForOne R xs others
same {X} {Y} R xs is are = subst (λ (l : List Y). AreOneForOne R xs l) (sym is) are

-- lines of the header leave the records
record KeepsRecords (draft next : Draft) : Type 0 where
  uses : next.uses ≡ draft.uses
  nodes : next.nodes ≡ draft.nodes
  fets : next.fets ≡ draft.fets
  merges : next.merges ≡ draft.merges

keeps_records : (draft other next : Draft) → next ≡ other → KeepsRecords draft other → KeepsRecords draft next
keeps_records draft other next is keeps = subst (KeepsRecords draft) (sym is) keeps

header_keeps : (draft : Draft) (header : HeaderLine) (next : Draft) → HeaderGains draft header next → KeepsRecords draft next
header_keeps draft (Tech name) next gains = keeps_records draft _ next gains (record { uses = refl; nodes = refl; fets = refl; merges = refl })
header_keeps draft (Version version) next gains = keeps_records draft _ next gains (record { uses = refl; nodes = refl; fets = refl; merges = refl })
header_keeps draft (Classes values) next gains = keeps_records draft _ next gains.2 (record { uses = refl; nodes = refl; fets = refl; merges = refl })
header_keeps draft Timestamp next gains = keeps_records draft _ next gains (record { uses = refl; nodes = refl; fets = refl; merges = refl })
header_keeps draft Style next gains = keeps_records draft _ next gains (record { uses = refl; nodes = refl; fets = refl; merges = refl })
header_keeps draft Scale next gains = keeps_records draft _ next gains (record { uses = refl; nodes = refl; fets = refl; merges = refl })

uses_follow : (version : Option lines.Version) → Follows IsUseOf use_said (λ d. d.uses) version
uses_follow version draft Nothing next gains stays xs are = same IsUseOf xs (ap (λ d. d.uses) gains) are
uses_follow version draft (Header header) next gains stays xs are = same IsUseOf xs (header_keeps draft header next gains.2).uses are
uses_follow version draft (Use line) next gains stays xs are =
    same IsUseOf (xs ++ line ∷ []) (ap (λ d. d.uses) gains.2) (AreOneForOne-push IsUseOf xs draft.uses line gains.0 are gains.1)
uses_follow version draft (Node line) next gains stays xs are = same IsUseOf xs (ap (λ d. d.uses) gains.2) are
uses_follow version draft (Equiv name alias) next gains stays xs are = same IsUseOf xs (ap (λ d. d.uses) gains.1) are
uses_follow version draft (Fet line) next gains stays xs are = same IsUseOf xs (ap (λ d. d.uses) gains.2) are
uses_follow version draft (Merge line) next gains stays xs are = same IsUseOf xs (ap (λ d. d.uses) gains.2) are

-- another name of a node leaves the rest of it
alias_kept : (lines : List NodeLine) (nodes : List NodeRec) (node : ℕ) (alias : List ℕ) → AreOneForOne IsNodeOf lines nodes
    → AreOneForOne IsNodeOf lines (with_alias_at node nodes alias)
alias_kept [] [] node alias are = tt
alias_kept [] (first ∷ nodes) node alias are = absurd are
alias_kept (line ∷ lines) [] node alias are = absurd are
alias_kept (line ∷ lines) (first ∷ nodes) zero alias are =
    let is = are.0 in
    (record { name = is.name; cap = is.cap; x = is.x; y = is.y; kind = is.kind; measures = is.measures }, are.1)
alias_kept (line ∷ lines) (first ∷ nodes) (suc node) alias are = (are.0, alias_kept lines nodes node alias are.1)

nodes_follow : (version : Option lines.Version) → Follows IsNodeOf node_said (λ d. d.nodes) version
nodes_follow version draft Nothing next gains stays xs are = same IsNodeOf xs (ap (λ d. d.nodes) gains) are
nodes_follow version draft (Header header) next gains stays xs are = same IsNodeOf xs (header_keeps draft header next gains.2).nodes are
nodes_follow version draft (Use line) next gains stays xs are = same IsNodeOf xs (ap (λ d. d.nodes) gains.2) are
nodes_follow version draft (Node line) next gains stays xs are =
    same IsNodeOf (xs ++ line ∷ []) (ap (λ d. d.nodes) gains.2) (AreOneForOne-push IsNodeOf xs draft.nodes line gains.0 are gains.1)
nodes_follow version draft (Equiv name alias) next gains stays xs are =
    same IsNodeOf xs (ap (λ d. d.nodes) gains.1) (alias_kept xs draft.nodes gains.0 alias are)
nodes_follow version draft (Fet line) next gains stays xs are = same IsNodeOf xs (ap (λ d. d.nodes) gains.2) are
nodes_follow version draft (Merge line) next gains stays xs are = same IsNodeOf xs (ap (λ d. d.nodes) gains.2) are

abbrev pub IsFetOf : FetLine → FetRec → Type 0
IsFetOf line fet = fet_from line ≡ Ok fet

fets_follow : (version : Option lines.Version) → Follows IsFetOf fet_said (λ d. d.fets) version
fets_follow version draft Nothing next gains stays xs are = same IsFetOf xs (ap (λ d. d.fets) gains) are
fets_follow version draft (Header header) next gains stays xs are = same IsFetOf xs (header_keeps draft header next gains.2).fets are
fets_follow version draft (Use line) next gains stays xs are = same IsFetOf xs (ap (λ d. d.fets) gains.2) are
fets_follow version draft (Node line) next gains stays xs are = same IsFetOf xs (ap (λ d. d.fets) gains.2) are
fets_follow version draft (Equiv name alias) next gains stays xs are = same IsFetOf xs (ap (λ d. d.fets) gains.1) are
fets_follow version draft (Fet line) next gains stays xs are =
    same IsFetOf (xs ++ line ∷ []) (ap (λ d. d.fets) gains.2) (AreOneForOne-push IsFetOf xs draft.fets line gains.0 are gains.1)
fets_follow version draft (Merge line) next gains stays xs are = same IsFetOf xs (ap (λ d. d.fets) gains.2) are

-- the row is that of the line, as it is read in this version
abbrev pub IsReadIn : Option lines.Version → MergeLine → MergeRow → Type 0
IsReadIn version line row = merge_from line (range_in version line.second) ≡ Ok row

merges_follow : (version : Option lines.Version) → Follows (IsReadIn version) merge_said (λ d. d.merges) version
merges_follow version draft Nothing next gains stays xs are = same (IsReadIn version) xs (ap (λ d. d.merges) gains) are
merges_follow version draft (Header header) next gains stays xs are = same (IsReadIn version) xs (header_keeps draft header next gains.2).merges are
merges_follow version draft (Use line) next gains stays xs are = same (IsReadIn version) xs (ap (λ d. d.merges) gains.2) are
merges_follow version draft (Node line) next gains stays xs are = same (IsReadIn version) xs (ap (λ d. d.merges) gains.2) are
merges_follow version draft (Equiv name alias) next gains stays xs are = same (IsReadIn version) xs (ap (λ d. d.merges) gains.1) are
merges_follow version draft (Fet line) next gains stays xs are = same (IsReadIn version) xs (ap (λ d. d.merges) gains.2) are
merges_follow version draft (Merge line) next gains stays xs are =
    let same_version : draft.version ≡ version = sym (ap (λ d. d.version) gains.2) ∙ stays (ap (λ d. d.begun) gains.2) in
    let row = gains.0 in
    let is_read = subst (λ (v : Option lines.Version). IsReadIn v line row) same_version gains.1 in
    same (IsReadIn version) (xs ++ line ∷ []) (ap (λ d. d.merges) gains.2)
    (AreOneForOne-push (IsReadIn version) xs draft.merges line row are is_read)

-- what the header has said, where it has said it
abbrev pub once : {Y : Type 0} → Bool → Y → List Y
once true y = y ∷ []
once false y = []

-- it was not said before
first_of_all : {X Y : Type 0} (R : X → Y → Type 0) (xs : List X) (seen : Bool) (before : Y) (x : X) (y : Y) → seen ≡ false
    → AreOneForOne R xs (once seen before) → R x y → AreOneForOne R (xs ++ x ∷ []) (once true y)
first_of_all R xs true before x y new are is = absurd (let no : ⊥ = cc in no)
first_of_all R xs false before x y new are is = AreOneForOne-push R xs [] x y are is

abbrev pub IsTech : List ℕ → List ℕ → Type 0
IsTech name tech = name ≡ tech

tech_follows : (version : Option lines.Version) → Follows IsTech tech_said (λ d. once d.seen.tech d.tech) version
tech_follows version draft Nothing next gains stays xs are = same IsTech xs (ap (λ d. once d.seen.tech d.tech) gains) are
tech_follows version draft (Header (Tech name)) next gains stays xs are =
    same IsTech (xs ++ name ∷ []) (ap (λ d. once d.seen.tech d.tech) gains.2)
    (first_of_all IsTech xs draft.seen.tech draft.tech name name gains.1 are refl)
tech_follows version draft (Header (Version word)) next gains stays xs are = same IsTech xs (ap (λ d. once d.seen.tech d.tech) gains.2) are
tech_follows version draft (Header (Classes values)) next gains stays xs are = same IsTech xs (ap (λ d. once d.seen.tech d.tech) gains.2.2) are
tech_follows version draft (Header Timestamp) next gains stays xs are = same IsTech xs (ap (λ d. once d.seen.tech d.tech) gains.2) are
tech_follows version draft (Header Style) next gains stays xs are = same IsTech xs (ap (λ d. once d.seen.tech d.tech) gains.2) are
tech_follows version draft (Header Scale) next gains stays xs are = same IsTech xs (ap (λ d. once d.seen.tech d.tech) gains.2) are
tech_follows version draft (Use line) next gains stays xs are = same IsTech xs (ap (λ d. once d.seen.tech d.tech) gains.2) are
tech_follows version draft (Node line) next gains stays xs are = same IsTech xs (ap (λ d. once d.seen.tech d.tech) gains.2) are
tech_follows version draft (Equiv name alias) next gains stays xs are = same IsTech xs (ap (λ d. once d.seen.tech d.tech) gains.1) are
tech_follows version draft (Fet line) next gains stays xs are = same IsTech xs (ap (λ d. once d.seen.tech d.tech) gains.2) are
tech_follows version draft (Merge line) next gains stays xs are = same IsTech xs (ap (λ d. once d.seen.tech d.tech) gains.2) are

abbrev pub IsVersion : lines.Version → Option lines.Version → Type 0
IsVersion word version = version ≡ Some word

version_follows : (version : Option lines.Version) → Follows IsVersion version_said (λ d. once d.seen.version d.version) version
version_follows version draft Nothing next gains stays xs are = same IsVersion xs (ap (λ d. once d.seen.version d.version) gains) are
version_follows version draft (Header (Tech name)) next gains stays xs are = same IsVersion xs (ap (λ d. once d.seen.version d.version) gains.2) are
version_follows version draft (Header (Version word)) next gains stays xs are =
    same IsVersion (xs ++ word ∷ []) (ap (λ d. once d.seen.version d.version) gains.2)
    (first_of_all IsVersion xs draft.seen.version draft.version word (Some word) gains.1 are refl)
version_follows version draft (Header (Classes values)) next gains stays xs are = same IsVersion xs (ap (λ d. once d.seen.version d.version) gains.2.2) are
version_follows version draft (Header Timestamp) next gains stays xs are = same IsVersion xs (ap (λ d. once d.seen.version d.version) gains.2) are
version_follows version draft (Header Style) next gains stays xs are = same IsVersion xs (ap (λ d. once d.seen.version d.version) gains.2) are
version_follows version draft (Header Scale) next gains stays xs are = same IsVersion xs (ap (λ d. once d.seen.version d.version) gains.2) are
version_follows version draft (Use line) next gains stays xs are = same IsVersion xs (ap (λ d. once d.seen.version d.version) gains.2) are
version_follows version draft (Node line) next gains stays xs are = same IsVersion xs (ap (λ d. once d.seen.version d.version) gains.2) are
version_follows version draft (Equiv name alias) next gains stays xs are = same IsVersion xs (ap (λ d. once d.seen.version d.version) gains.1) are
version_follows version draft (Fet line) next gains stays xs are = same IsVersion xs (ap (λ d. once d.seen.version d.version) gains.2) are
version_follows version draft (Merge line) next gains stays xs are = same IsVersion xs (ap (λ d. once d.seen.version d.version) gains.2) are

abbrev pub AreClasses : List (Option ℤ) → List ℕ → Type 0
AreClasses values classes = class_values_in values ≡ Ok classes

classes_follow : (version : Option lines.Version) → Follows AreClasses classes_said (λ d. once d.seen.classes d.classes) version
classes_follow version draft Nothing next gains stays xs are = same AreClasses xs (ap (λ d. once d.seen.classes d.classes) gains) are
classes_follow version draft (Header (Tech name)) next gains stays xs are = same AreClasses xs (ap (λ d. once d.seen.classes d.classes) gains.2) are
classes_follow version draft (Header (Version word)) next gains stays xs are = same AreClasses xs (ap (λ d. once d.seen.classes d.classes) gains.2) are
classes_follow version draft (Header (Classes values)) next gains stays xs are =
    same AreClasses (xs ++ values ∷ []) (ap (λ d. once d.seen.classes d.classes) gains.2.2)
    (first_of_all AreClasses xs draft.seen.classes draft.classes values gains.2.0 gains.1 are gains.2.1)
classes_follow version draft (Header Timestamp) next gains stays xs are = same AreClasses xs (ap (λ d. once d.seen.classes d.classes) gains.2) are
classes_follow version draft (Header Style) next gains stays xs are = same AreClasses xs (ap (λ d. once d.seen.classes d.classes) gains.2) are
classes_follow version draft (Header Scale) next gains stays xs are = same AreClasses xs (ap (λ d. once d.seen.classes d.classes) gains.2) are
classes_follow version draft (Use line) next gains stays xs are = same AreClasses xs (ap (λ d. once d.seen.classes d.classes) gains.2) are
classes_follow version draft (Node line) next gains stays xs are = same AreClasses xs (ap (λ d. once d.seen.classes d.classes) gains.2) are
classes_follow version draft (Equiv name alias) next gains stays xs are = same AreClasses xs (ap (λ d. once d.seen.classes d.classes) gains.1) are
classes_follow version draft (Fet line) next gains stays xs are = same AreClasses xs (ap (λ d. once d.seen.classes d.classes) gains.2) are
classes_follow version draft (Merge line) next gains stays xs are = same AreClasses xs (ap (λ d. once d.seen.classes d.classes) gains.2) are

-- what goes along with one thing is one thing
only_one : {X Y : Type 0} (R : X → Y → Type 0) (xs : List X) (y : Y) → AreOneForOne R xs (y ∷ []) → (x : X) × (xs ≡ x ∷ []) × R x y
only_one R [] y are = absurd are
only_one R (x ∷ []) y are = (x, refl, are.0)
only_one R (x ∷ (other ∷ xs)) y are = absurd are.1

-- and where the header has said it, it said it once
said_once : {X Y : Type 0} (R : X → Y → Type 0) (xs : List X) (seen : Bool) (y : Y) → seen ≡ true → AreOneForOne R xs (once seen y)
    → (x : X) × (xs ≡ x ∷ []) × R x y
said_once R xs true y is are = only_one R xs y are
said_once R xs false y is are = absurd (let no : ⊥ = cc in no)

-- a header that is complete has said the three
three_said : (tech version classes : Bool) → not (tech && version && classes) ≡ false → (tech ≡ true) × (version ≡ true) × (classes ≡ true)
three_said true true true e = (refl, refl, refl)
three_said true true false e = absurd (let no : ⊥ = cc in no)
three_said true false classes e = absurd (let no : ⊥ = cc in no)
three_said false version classes e = absurd (let no : ⊥ = cc in no)

-- the record of lines that lead to a draft with a whole header
spelled : (cell text : List ℕ) (said : List ExtLine) (last : Draft) → AreSaid (λ k. says) 1 (lines_of text) said → Leads nothing_yet said last
    → is_incomplete last.seen ≡ false → IsSpelled cell text (record_of cell last)
spelled cell text said last are leads whole =
    let version = last.version in
    let seen = three_said last.seen.tech last.seen.version last.seen.classes whole in
    let tech = said_once IsTech (filter_map tech_said said) last.seen.tech last.tech seen.0
    (follow IsTech tech_said (λ d. once d.seen.tech d.tech) last (tech_follows version) nothing_yet said leads [] tt) in
    let word = said_once IsVersion (filter_map version_said said) last.seen.version last.version seen.1
    (follow IsVersion version_said (λ d. once d.seen.version d.version) last (version_follows version) nothing_yet said leads [] tt) in
    let classes = said_once AreClasses (filter_map classes_said said) last.seen.classes last.classes seen.2
    (follow AreClasses classes_said (λ d. once d.seen.classes d.classes) last (classes_follow version) nothing_yet said leads [] tt) in
    let merges = follow (IsReadIn version) merge_said (λ d. d.merges) last (merges_follow version) nothing_yet said leads [] tt in
    record {
      said = said;
      version = word.0;
      values = classes.0;
      lines_are = are;
      named = refl;
      tech_is = tech.1 ∙ ap (λ (name : List ℕ). name ∷ []) tech.2;
      version_is = word.1;
      values_are = classes.1;
      classes_are = classes.2;
      uses_are = follow IsUseOf use_said (λ d. d.uses) last (uses_follow version) nothing_yet said leads [] tt;
      nodes_are = follow IsNodeOf node_said (λ d. d.nodes) last (nodes_follow version) nothing_yet said leads [] tt;
      fets_are = follow IsFetOf fet_said (λ d. d.fets) last (fets_follow version) nothing_yet said leads [] tt;
      merges_are = subst (λ (v : Option lines.Version). AreOneForOne (IsReadIn v) (filter_map merge_said said) last.merges) word.2 merges;
    }

-- a text that ends without fault has a whole header
whole_header : (draft whole : Draft) (incomplete : Bool) → is_incomplete draft.seen ≡ incomplete → cond incomplete (Err NoHeader) (Ok draft) ≡ Ok whole
    → (is_incomplete draft.seen ≡ false) × (draft ≡ whole)
whole_header draft whole true is e = absurd (let no : ⊥ = cc in no)
whole_header draft whole false is e = (is, (let as_said : draft ≡ whole = cc in as_said))

draft_of : (cell : List ℕ) (found : Result Draft (At ExtReadFault)) (ext : ArrayExt) → and_then found (λ draft. Ok (record_of cell draft)) ≡ Ok ext
    → (draft : Draft) × (found ≡ Ok draft) × (record_of cell draft ≡ ext)
draft_of cell (Ok draft) ext e = (draft, refl, (let is : record_of cell draft ≡ ext = cc in is))
draft_of cell (Err at) ext e = absurd (let no : ⊥ = cc in no)

pub read_files_spell : (cell text : List ℕ) (ext : ArrayExt) → ext_in cell text ≡ Ok ext → IsSpelled cell text ext
unfolding draft_in
read_files_spell cell text ext e =
    let outline = outline_of (lines_of text) in
    let found = draft_of cell (draft_in text) ext e in
    let read = text_state-Ok (step outline) finish nothing_yet (lines_of text) found.0 found.1 in
    let ended = whole_header read.0 found.0 (is_incomplete read.0.seen) refl read.2 in
    let lines = lines_lead outline 1 nothing_yet (lines_of text) read.0 read.1 in
    let is = spelled cell text lines.0 read.0 lines.1 lines.2 ended.0 in
    subst (IsSpelled cell text) (ap (record_of cell) ended.1 ∙ found.2) is
