-- What was read is lawful, line by line.
use Rattle.mag_text.proofs.Common.{◌≡◌, ◌<◌, ℕ, ℤ, Bool, true, false, cond, List, [], ◌∷◌, ◌++◌, length, Some, Result, Ok, Err, refl, sym, ap, ◌∙◌}
use Rattle.mag_text.proofs.Common.{subst, IfOk, IfSome, IsTrue, All, bytes_eq, Distinct, lines_of, is_plain_name, and_then, text_state, words_of}
use Rattle.mag_text.proofs.Common.{Grid, Rect, LayerId, OneLabel, RawTech, CellUse, ids_of, IsLabel, is_use_id, is_grid, is_placing, is_scale_number}
use Rattle.mag_text.proofs.Common.{MagFault, UseTwice, Magic, BadLine, OneGroup, Paint, Labels, ReadOver, MagLine, Nothing, Tech, Timestamp, Scale}
use Rattle.mag_text.proofs.Common.{Group, End, Area, Label, Use, Array, Transform, Box, Section, Start, Header, Inside, InUse, Between, Ended, Seen}
use Rattle.mag_text.proofs.Common.{Named, Arrayed, Dated, Placed, Draft, nothing_yet, has_id, step, finish, says, CellBody, AreDrawn}
use Rattle.std.proofs.lemmas.Slice.Eq.{bytes_eq-Decides}
use Rattle.std.proofs.lemmas.List.{map-append}
use Rattle.std.proofs.lemmas.List.Elements.{All-nil, All-push}
use Rattle.finite_sets.proofs.Distincts.{Distinct-push}
use Rattle.finite_sets.proofs.Searches.{absent-from_list_any}
use Rattle.text_form.proofs.FoldLaws.{first_fault_or-keeps, text_state-Ok}
use Rattle.cell_library.specs.CellBodies.Bodies.{IsUse, IsBody}
use Rattle.mag_text.specs.declared.files.UsePart.{UsePart}
use Rattle.mag_text.specs.Drafts.{none_seen, use_named, opens, takes_in_header, takes_in_group, takes_in_use, takes_said, takes_in}
use Rattle.mag_text.specs.Drafts.{with_grid, with_time, with_six, ends_read_over, is_magic, begins, line_taken, line_in, ended}
use Rattle.mag_text.specs.Drawings.{IsDrawn}
use Rattle.mag_text.specs.MagTexts.{mag_in, HasAllOf}
use Rattle.mag_text.proofs.LawfulLines.{IsGoodLine, IsGoodGroup, IsGoodScale, IsPainted, says-good}

-- the use that is being read has a cell, an id that no other has, and a grid if any
pub record IsPending (draft : Draft) : Type 0 where
  pub cell : IsTrue (is_plain_name draft.pending.cell)
  pub id : IsTrue (is_use_id draft.pending.id)
  pub grid : IfSome draft.pending.grid (λ grid. IsTrue (is_grid grid))
  pub new : has_id draft.pending.id draft.uses ≡ false

abbrev IsPendingIn : UsePart → Draft → Type 0
IsPendingIn Placed draft = Unit {0}
IsPendingIn part draft = IsPending draft

-- what the section adds: the layer of a group is the technology's, and the use that is being read is of its form
abbrev IsInPlace : RawTech → Section → Draft → Type 0
IsInPlace raw (Inside group) draft = IsGoodGroup raw group
IsInPlace raw (InUse part) draft = IsPendingIn part draft
IsInPlace raw section draft = Unit {0}

-- what was read so far is lawful
pub record HasLawful (raw : RawTech) (draft : Draft) : Type 0 where
  pub drawn : AreDrawn raw draft.drawn
  pub uses : All IsUse draft.uses
  pub ids_differ : Distinct (ids_of draft.uses)
  pub labels : All (IsLabel raw) draft.labels
  pub numerator : IsTrue (is_scale_number draft.scale.0)
  pub denominator : IsTrue (is_scale_number draft.scale.1)

pub record IsLawfulDraft (raw : RawTech) (draft : Draft) : Type 0 where
  pub has : HasLawful raw draft
  pub place : IsInPlace raw draft.section draft

nothing_yet-lawful : (raw : RawTech) → IsLawfulDraft raw nothing_yet
nothing_yet-lawful raw = record {
  has = record { drawn = All-nil (IsDrawn raw); uses = All-nil IsUse; ids_differ = tt; labels = All-nil (IsLabel raw); numerator = refl; denominator = refl };
  place = tt;
}

-- the section and the use that is being read are nothing to what was read
kept : (raw : RawTech) (draft : Draft) (section : Section) (pending : CellUse) → HasLawful raw draft
    → HasLawful raw (record draft { section = section; pending = pending })
kept raw draft section pending has = record {
  drawn = has.drawn;
  uses = has.uses;
  ids_differ = has.ids_differ;
  labels = has.labels;
  numerator = has.numerator;
  denominator = has.denominator;
}

-- what comes of a value, if it is one
then_good : {A : Type 0} (P : Draft → Type 0) (Q : A → Type 0) (found : Result A MagFault) (next : A → Result Draft MagFault)
    → IfOk found Q → ((a : A) → Q a → IfOk (next a) P) → IfOk (and_then found next) P
then_good P Q (Ok a) next holds more = more a holds
then_good P Q (Err fault) next holds more = tt

then_any : {A : Type 0} (P : Draft → Type 0) (found : Result A MagFault) (next : A → Result Draft MagFault) → ((a : A) → IfOk (next a) P)
    → IfOk (and_then found next) P
then_any P (Ok a) next more = more a
then_any P (Err fault) next more = tt

unless_good : (P : Draft → Type 0) (test : Bool) (fault : MagFault) (found : Result Draft MagFault) → (test ≡ false → IfOk found P)
    → IfOk (cond test (Err fault) found) P
unless_good P true fault found good = tt
unless_good P false fault found good = good refl

opens-lawful : (raw : RawTech) (draft : Draft) (said : MagLine) → HasLawful raw draft → IsGoodLine raw said → IfOk (opens draft said) (IsLawfulDraft raw)
opens-lawful raw draft (Group group) has good =
    then_good (IsLawfulDraft raw) (IsGoodGroup raw) group (λ group. Ok (record draft { section = Inside group })) good
    (λ group is. record { has = kept raw draft (Inside group) draft.pending has; place = is })
opens-lawful raw draft End has good = record { has = kept raw draft Ended draft.pending has; place = tt }
opens-lawful raw draft (Use cell id) has good =
    unless_good (IsLawfulDraft raw) (has_id id draft.uses) UseTwice _
    (λ new. record { has = kept raw draft (InUse Named) (use_named cell id) has; place = record { cell = good.0; id = good.1; grid = tt; new = new } })
opens-lawful raw draft said has good = tt

header-lawful : (raw : RawTech) (seen : Seen) (draft : Draft) (said : MagLine) → HasLawful raw draft → IsGoodLine raw said
    → IfOk (takes_in_header seen draft said) (IsLawfulDraft raw)
header-lawful raw seen draft Tech has good =
    unless_good (IsLawfulDraft raw) seen.tech BadLine _
    (λ new. record { has = kept raw draft (Header (record seen { tech = true })) draft.pending has; place = tt })
header-lawful raw seen draft (Timestamp time) has good =
    unless_good (IsLawfulDraft raw) seen.timestamp BadLine _ (λ new.
    then_any (IsLawfulDraft raw) time _ (λ t. record { has = kept raw draft (Header (record seen { timestamp = true })) draft.pending has; place = tt }))
header-lawful raw seen draft (Scale scale) has good =
    unless_good (IsLawfulDraft raw) seen.scale BadLine _ (λ new.
    then_good (IsLawfulDraft raw) IsGoodScale scale _ good (λ s is. record {
      has = record { drawn = has.drawn; uses = has.uses; ids_differ = has.ids_differ; labels = has.labels; numerator = is.0; denominator = is.1 };
      place = tt;
    }))
header-lawful raw seen draft said has good = opens-lawful raw draft said has good

area-lawful : (raw : RawTech) (layer : LayerId) (draft : Draft) (area : Result Rect MagFault)
    → IsLawfulDraft raw draft → draft.section ≡ Inside (Paint layer) → layer.0 < length raw.layers → IfOk area IsPainted
    → IfOk (takes_in_group (Paint layer) draft (Area area)) (IsLawfulDraft raw)
area-lawful raw layer draft area lawful there below good =
    let has = lawful.has in
    then_good (IsLawfulDraft raw) IsPainted area _ good (λ a is. record {
      has = record {
        drawn = All-push (IsDrawn raw) draft.drawn _ has.drawn (record { layer = below; square = is.0; range = is.1 });
        uses = has.uses;
        ids_differ = has.ids_differ;
        labels = has.labels;
        numerator = has.numerator;
        denominator = has.denominator;
      };
      place = subst (λ (section : Section). IsInPlace raw section (record draft { drawn = draft.drawn ++ (record { layer = layer; area = a }) ∷ [] }))
          (sym there) below;
    })

label-lawful : (raw : RawTech) (draft : Draft) (label : Result OneLabel MagFault)
    → IsLawfulDraft raw draft → draft.section ≡ Inside Labels → IfOk label (IsLabel raw) → IfOk (takes_in_group Labels draft (Label label)) (IsLawfulDraft raw)
label-lawful raw draft label lawful there good =
    let has = lawful.has in
    then_good (IsLawfulDraft raw) (IsLabel raw) label _ good (λ l is. record {
      has = record {
        drawn = has.drawn;
        uses = has.uses;
        ids_differ = has.ids_differ;
        labels = All-push (IsLabel raw) draft.labels l has.labels is;
        numerator = has.numerator;
        denominator = has.denominator;
      };
      place = subst (λ (section : Section). IsInPlace raw section (record draft { labels = draft.labels ++ l ∷ [] })) (sym there) tt;
    })

group-lawful : (raw : RawTech) (group : OneGroup) (draft : Draft) (said : MagLine)
    → IsLawfulDraft raw draft → draft.section ≡ Inside group → IsGoodGroup raw group → IsGoodLine raw said
    → IfOk (takes_in_group group draft said) (IsLawfulDraft raw)
group-lawful raw (Paint layer) draft (Area area) lawful there below good = area-lawful raw layer draft area lawful there below good
group-lawful raw Labels draft (Label label) lawful there below good = label-lawful raw draft label lawful there good
group-lawful raw group draft said lawful there below good = opens-lawful raw draft said lawful.has good

six-lawful : (raw : RawTech) (draft : Draft) (six : Result (List ℤ) MagFault) → HasLawful raw draft → IsPending draft
    → IfOk six (λ six. IsTrue (is_placing six))
    → IfOk (and_then six (λ six. Ok (with_six draft six))) (IsLawfulDraft raw)
six-lawful raw draft six has pending good =
    then_good (IsLawfulDraft raw) (λ six. IsTrue (is_placing six)) six _ good (λ s is.
    let placed : CellUse = record draft.pending { six = s } in
    let ids : ids_of (draft.uses ++ placed ∷ []) ≡ ids_of draft.uses ++ draft.pending.id ∷ [] = map-append (λ (u : CellUse). u.id) draft.uses (placed ∷ []) in
    record {
      has = record {
        drawn = has.drawn;
        uses = All-push IsUse draft.uses placed has.uses (record { cell = pending.cell; id = pending.id; six = is; grid = pending.grid });
        ids_differ = subst (λ (ids : List (List ℕ)). Distinct ids) (sym ids)
            (Distinct-push (ids_of draft.uses) draft.pending.id has.ids_differ
            (absent-from_list_any bytes_eq bytes_eq-Decides draft.pending.id (ids_of draft.uses) pending.new));
        labels = has.labels;
        numerator = has.numerator;
        denominator = has.denominator;
      };
      place = tt;
    })

time-lawful : (raw : RawTech) (draft : Draft) (time : Result ℤ MagFault) → HasLawful raw draft → IsPending draft
    → IfOk (and_then time (λ _. Ok (with_time draft))) (IsLawfulDraft raw)
time-lawful raw draft time has pending =
    then_any (IsLawfulDraft raw) time _ (λ t. record {
      has = kept raw draft (InUse Dated) draft.pending has;
      place = record { cell = pending.cell; id = pending.id; grid = pending.grid; new = pending.new };
    })

grid-lawful : (raw : RawTech) (draft : Draft) (grid : Result Grid MagFault) → HasLawful raw draft → IsPending draft → IfOk grid (λ grid. IsTrue (is_grid grid))
    → IfOk (and_then grid (λ grid. Ok (with_grid draft grid))) (IsLawfulDraft raw)
grid-lawful raw draft grid has pending good =
    then_good (IsLawfulDraft raw) (λ grid. IsTrue (is_grid grid)) grid _ good (λ g is. record {
      has = kept raw draft (InUse Arrayed) (record draft.pending { grid = Some g }) has;
      place = record { cell = pending.cell; id = pending.id; grid = is; new = pending.new };
    })

use-lawful : (raw : RawTech) (part : UsePart) (draft : Draft) (said : MagLine) → HasLawful raw draft → IsPendingIn part draft → IsGoodLine raw said
    → IfOk (takes_in_use part draft said) (IsLawfulDraft raw)
use-lawful raw Named draft (Array grid) has pending good = grid-lawful raw draft grid has pending good
use-lawful raw Named draft (Timestamp time) has pending good = time-lawful raw draft time has pending
use-lawful raw Arrayed draft (Timestamp time) has pending good = time-lawful raw draft time has pending
use-lawful raw Placed draft Box has pending good = record { has = kept raw draft Between draft.pending has; place = tt }
use-lawful raw Named draft (Transform six) has pending good = six-lawful raw draft six has pending good
use-lawful raw Arrayed draft (Transform six) has pending good = six-lawful raw draft six has pending good
use-lawful raw Dated draft (Transform six) has pending good = six-lawful raw draft six has pending good
use-lawful raw part draft said has pending good = tt

in_place : (raw : RawTech) (draft : Draft) (section : Section) → draft.section ≡ section → IsLawfulDraft raw draft → IsInPlace raw section draft
in_place raw draft section there lawful = subst (λ (s : Section). IsInPlace raw s draft) there lawful.place

said-lawful : (raw : RawTech) (section : Section) (draft : Draft) (said : MagLine) → IsLawfulDraft raw draft → draft.section ≡ section → IsGoodLine raw said
    → IfOk (takes_said section draft said) (IsLawfulDraft raw)
said-lawful raw (Header seen) draft said lawful there good = header-lawful raw seen draft said lawful.has good
said-lawful raw (Inside group) draft said lawful there good =
    group-lawful raw group draft said lawful there (in_place raw draft (Inside group) there lawful) good
said-lawful raw (InUse part) draft said lawful there good = use-lawful raw part draft said lawful.has (in_place raw draft (InUse part) there lawful) good
said-lawful raw section draft said lawful there good = opens-lawful raw draft said lawful.has good

in-lawful : (raw : RawTech) (section : Section) (draft : Draft) (said : MagLine) → IsLawfulDraft raw draft → draft.section ≡ section → IsGoodLine raw said
    → IfOk (takes_in section draft said) (IsLawfulDraft raw)
in-lawful raw section draft Nothing lawful there good = lawful
in-lawful raw section draft said lawful there good = said-lawful raw section draft said lawful there good

taken-lawful : (raw : RawTech) (draft : Draft) (line : List ℕ) → IsLawfulDraft raw draft → IfOk (line_taken raw draft line) (IsLawfulDraft raw)
taken-lawful raw draft line lawful =
    then_good (IsLawfulDraft raw) (IsGoodLine raw) (says raw line) _ (says-good raw line) (λ said good. in-lawful raw draft.section draft said lawful refl good)

begun : (raw : RawTech) (draft : Draft) (test : Bool) → IsLawfulDraft raw draft
    → IfOk (cond test (Ok (record draft { section = Header none_seen })) (Err Magic)) (IsLawfulDraft raw)
begun raw draft true lawful = record { has = kept raw draft (Header none_seen) draft.pending lawful.has; place = tt }
begun raw draft false lawful = tt

begins-lawful : (raw : RawTech) (draft : Draft) (line : List ℕ) → IsLawfulDraft raw draft → IfOk (begins draft line) (IsLawfulDraft raw)
begins-lawful raw draft line lawful = begun raw draft (is_magic (words_of line)) lawful

read_over-lawful : (raw : RawTech) (draft : Draft) (line : List ℕ) (test : Bool) → IsLawfulDraft raw draft
    → IfOk (cond test (line_taken raw draft line) (Ok draft)) (IsLawfulDraft raw)
read_over-lawful raw draft line true lawful = taken-lawful raw draft line lawful
read_over-lawful raw draft line false lawful = lawful

line-lawful : (raw : RawTech) (section : Section) (draft : Draft) (line : List ℕ) → IsLawfulDraft raw draft
    → IfOk (line_in raw section draft line) (IsLawfulDraft raw)
line-lawful raw Start draft line lawful = begins-lawful raw draft line lawful
line-lawful raw (Inside ReadOver) draft line lawful = read_over-lawful raw draft line (ends_read_over line) lawful
line-lawful raw Ended draft line lawful = lawful
line-lawful raw section draft line lawful = taken-lawful raw draft line lawful

step-lawful : (raw : RawTech) (number : ℕ) (draft : Draft) (line : List ℕ) (next : Draft) → IsLawfulDraft raw draft → step raw number draft line ≡ Ok next
    → IsLawfulDraft raw next
step-lawful raw number draft line next lawful is =
    let all = line-lawful raw draft.section draft line lawful in
    subst (λ (found : Result Draft MagFault). IfOk found (IsLawfulDraft raw)) is all

ended_same : (section : Section) (draft last : Draft) → ended section draft ≡ Ok last → draft ≡ last
ended_same Ended draft last e = let same : draft ≡ last = cc in same
ended_same section draft last e = absurd (let no : ⊥ = cc in no)

-- what a text without fault says is lawful
pub mag_in-lawful : (raw : RawTech) (text : List ℕ) (draft : Draft) → mag_in raw text ≡ Ok draft → HasLawful raw draft
unfolding mag_in
mag_in-lawful raw text draft is =
    let read = text_state-Ok (step raw) finish nothing_yet (lines_of text) draft is in
    let lawful = first_fault_or-keeps (IsLawfulDraft raw) (step raw) (step-lawful raw) 1 nothing_yet (lines_of text) read.0 (nothing_yet-lawful raw) read.1 in
    let same : read.0 ≡ draft = ended_same read.0.section read.0 draft read.2 in
    subst (HasLawful raw) same lawful.has

-- the body that has what was read is lawful
pub body-lawful : (raw : RawTech) (draft : Draft) (body : CellBody) → HasLawful raw draft → HasAllOf raw draft body → body.paint.kinds ≡ raw.types
    → length body.paint.planes ≡ length raw.planes → IsBody raw body
body-lawful raw draft body has all kinds planes = record {
  kinds = kinds;
  planes = planes;
  uses = subst (All IsUse) (sym all.uses_are) has.uses;
  ids_differ = subst (λ (uses : List CellUse). Distinct (ids_of uses)) (sym all.uses_are) has.ids_differ;
  labels = subst (All (IsLabel raw)) (sym all.labels_are) has.labels;
  numerator = subst (λ (scale : ℕ × ℕ). IsTrue (is_scale_number scale.0)) (sym all.scale_is) has.numerator;
  denominator = subst (λ (scale : ℕ × ℕ). IsTrue (is_scale_number scale.1)) (sym all.scale_is) has.denominator;
}

-- what is read from nothing is what the text says
pub mag_in-read : (raw : RawTech) (text : List ℕ) (start last : Draft) → start ≡ nothing_yet → text_state (step raw) finish start (lines_of text) ≡ Ok last
    → mag_in raw text ≡ Ok last
unfolding mag_in
mag_in-read raw text start last is read = ap (λ (s : Draft). text_state (step raw) finish s (lines_of text)) (sym is) ∙ read
