-- The names that are left, as frames come and go and cells are added.
use Rattle.cell_loading.proofs.Common.{◌≡◌, ◌⊎◌, ◌<◌, ◌≤◌, ◌+◌, ℕ, suc, List, [], ◌∷◌, ◌++◌, length, refl, sym, ap, ◌∙◌, arith, subst, length-append}
use Rattle.cell_loading.proofs.Common.{true, false, Option, Some, None, length-map, All-push, All-same, CellBody, CellUse, LibraryView, Frame}
use Rattle.cell_loading.proofs.Common.{children_of, is_among, names_left, rest_of}
use Rattle.std.proofs.Common.{drop}
use Rattle.std.proofs.Common.{append-nil, append_assoc, get_or}
use Rattle.std.proofs.Math.ListN.{get_or-append}
use Rattle.std.proofs.Math.Seq.{get_or-append_seam}
use Rattle.std.proofs.lemmas.List.{drop_more, get_or-map}
use Rattle.std.proofs.lemmas.List.Elements.{All-head, All-pop, All-tail, All-weaker}
use Rattle.cell_loading.specs.declared.walks.Next.{Next}
use Rattle.cell_loading.specs.declared.walks.Next.TheVariants as next
use Rattle.cell_loading.specs.steps.ReadCells.{no_read, uses_at}
use Rattle.cell_loading.specs.steps.Walks.{AreFrames, Takes, TakesFrom}

-- the names of a frame on top come first
pub names_left-push : (cells : List (List ℕ × CellBody)) (frames : List Frame) (frame : Frame)
    → names_left cells (frames ++ frame ∷ []) ≡ rest_of cells frame ++ names_left cells frames
names_left-push cells [] frame = sym (append-nil (rest_of cells frame))
names_left-push cells (first ∷ frames) frame =
    ap (λ (names : List (List ℕ)). names ++ rest_of cells first) (names_left-push cells frames frame)
    ∙ append_assoc (rest_of cells frame) (names_left cells frames) (rest_of cells first)

-- the frame of a cell is the same when more cells come
rest_of-more : (cells : List (List ℕ × CellBody)) (cell : List ℕ × CellBody) (frame : Frame) → frame.cell < length cells
    → rest_of (cells ++ cell ∷ []) frame ≡ rest_of cells frame
rest_of-more cells cell frame there =
    ap (λ (c : List ℕ × CellBody). drop frame.next (children_of c.1.uses)) (get_or-append cells (cell ∷ []) no_read frame.cell there)

names_left-more : (cells : List (List ℕ × CellBody)) (cell : List ℕ × CellBody) (frames : List Frame) → AreFrames (length cells) frames
    → names_left (cells ++ cell ∷ []) frames ≡ names_left cells frames
names_left-more cells cell [] are = refl
names_left-more cells cell (frame ∷ frames) are =
    let rest = names_left-more cells cell frames (All-tail (λ (f : Frame). f.cell < length cells) frame frames are) in
    let here = rest_of-more cells cell frame (All-head (λ (f : Frame). f.cell < length cells) frame frames are) in
    λ i. rest i ++ here i

rest_of-new : (cells : List (List ℕ × CellBody)) (cell : List ℕ × CellBody)
    → rest_of (cells ++ cell ∷ []) (record { cell = length cells; next = 0 }) ≡ children_of cell.1.uses
rest_of-new cells cell = ap (λ (c : List ℕ × CellBody). children_of c.1.uses) (get_or-append_seam cells cell [] no_read)

-- a cell that was read brings the names that it uses, which come first
pub names_left-read : (cells : List (List ℕ × CellBody)) (cell : List ℕ × CellBody) (frames : List Frame) → AreFrames (length cells) frames
    → names_left (cells ++ cell ∷ []) (frames ++ (record { cell = length cells; next = 0 }) ∷ []) ≡ children_of cell.1.uses ++ names_left cells frames
names_left-read cells cell frames are =
    let here = rest_of-new cells cell in
    let rest = names_left-more cells cell frames are in
    names_left-push (cells ++ cell ∷ []) frames (record { cell = length cells; next = 0 }) ∙ (λ i. here i ++ rest i)

-- frames of some cells are frames of more
pub AreFrames-more : (few many : ℕ) (frames : List Frame) → few ≤ many → AreFrames few frames → AreFrames many frames
AreFrames-more few many frames more are =
    All-weaker (λ (f : Frame). f.cell < few) (λ (f : Frame). f.cell < many) (λ f below. omega (arith, below)) frames are

-- before that the next use's name is the first
pub rest_of-next : (cells : List (List ℕ × CellBody)) (cell next : ℕ) (uses : List CellUse) (used : CellUse) → uses ≡ uses_at cells cell
    → next < length uses
    → used ≡ get_or uses next used
    → rest_of cells (record { cell = cell; next = next }) ≡ used.cell ∷ rest_of cells (record { cell = cell; next = next + 1 })
rest_of-next cells cell next uses used is there read =
    let long : length (children_of uses) ≡ length uses = length-map uses (λ (u : CellUse). u.cell) in
    let first : get_or (children_of uses) next used.cell ≡ used.cell =
    get_or-map (λ (u : CellUse). u.cell) uses next used used.cell there ∙ ap (λ (u : CellUse). u.cell) (sym read) in
    ap (λ (u : List CellUse). drop next (children_of u)) (sym is)
    ∙ drop_more (children_of uses) next used.cell (omega (arith, long))
    ∙ ap (λ (name : List ℕ). name ∷ drop (next + 1) (children_of uses)) first
    ∙ ap (λ (u : List CellUse). used.cell ∷ drop (next + 1) (children_of u)) is

-- ---- a step of the top frame

-- the top frame has nothing left, and goes
pub left_popped : (cells : List (List ℕ × CellBody)) (old new : List Frame) (frame : Frame) → old ≡ new ++ frame ∷ [] → rest_of cells frame ≡ []
    → names_left cells old ≡ names_left cells new
left_popped cells old new frame is none =
    ap (names_left cells) is ∙ names_left-push cells new frame ∙ ap (λ (names : List (List ℕ)). names ++ names_left cells new) none

-- the first name of the top frame is taken
pub left_taken : (cells : List (List ℕ × CellBody)) (old rest new : List Frame) (frame after : Frame) (name : List ℕ) → old ≡ rest ++ frame ∷ []
    → new ≡ rest ++ after ∷ [] → rest_of cells frame ≡ name ∷ rest_of cells after → names_left cells old ≡ name ∷ names_left cells new
left_taken cells old rest new frame after name old_is new_is taken =
    ap (names_left cells) old_is ∙ names_left-push cells rest frame ∙ ap (λ (names : List (List ℕ)). names ++ names_left cells rest) taken
    ∙ ap (λ (names : List (List ℕ)). name ∷ names) (sym (ap (names_left cells) new_is ∙ names_left-push cells rest after))

-- the top frame is one of the same cell
pub frames_replaced : (count : ℕ) (old rest new : List Frame) (frame after : Frame) → old ≡ rest ++ frame ∷ [] → new ≡ rest ++ after ∷ []
    → after.cell ≡ frame.cell → AreFrames count old → AreFrames count new
frames_replaced count old rest new frame after old_is new_is same are =
    let both = All-pop (λ (f : Frame). f.cell < count) old rest (Some frame) old_is are in
    let here : after.cell < count = subst (λ (n : ℕ). n < count) (sym same) both.1 in
    All-same (λ (f : Frame). f.cell < count) new (rest ++ after ∷ []) new_is (All-push (λ (f : Frame). f.cell < count) rest after both.0 here)

pub one_popped : (cells : List (List ℕ × CellBody)) (old new : List Frame) (frame : Frame) → old ≡ new ++ frame ∷ []
    → names_left cells old ≡ names_left cells new
    → length (names_left cells new) + length new < length (names_left cells old) + length old
one_popped cells old new frame is same =
    let long : length old ≡ length new + 1 = ap length is ∙ length-append new (frame ∷ []) in
    let left : length (names_left cells old) ≡ length (names_left cells new) = ap length same in
    omega (arith, long, left)

pub as_many_frames : (old rest new : List Frame) (frame after : Frame) → old ≡ rest ++ frame ∷ [] → new ≡ rest ++ after ∷ [] → length new ≡ length old
as_many_frames old rest new frame after old_is new_is =
    let many : length old ≡ length rest + 1 = ap length old_is ∙ length-append rest (frame ∷ []) in
    let same : length new ≡ length rest + 1 = ap length new_is ∙ length-append rest (after ∷ []) in
    omega (arith, many, same)

pub one_taken : (cells : List (List ℕ × CellBody)) (old rest new : List Frame) (frame after : Frame) (name : List ℕ) → old ≡ rest ++ frame ∷ []
    → new ≡ rest ++ after ∷ [] → names_left cells old ≡ name ∷ names_left cells new
    → length (names_left cells new) + length new < length (names_left cells old) + length old
one_taken cells old rest new frame after name old_is new_is taken =
    let many = as_many_frames old rest new frame after old_is new_is in
    let left : length (names_left cells old) ≡ suc (length (names_left cells new)) = ap length taken in
    omega (arith, many, left)

-- ---- what was taken

module _ (view : LibraryView) (cells : List (List ℕ × CellBody)) (left after : List (List ℕ)) where
  pub nothing_taken : (taken : Next) → taken ≡ next.Nothing → TakesFrom view cells left after taken → left ≡ []
  nothing_taken taken is takes = subst (TakesFrom view cells left after) is takes

  pub known_taken : (taken : Next) → taken ≡ next.Known → TakesFrom view cells left after taken
      → (name : List ℕ) × (left ≡ name ∷ after) × (is_among view cells name ≡ true)
  known_taken taken is takes = subst (TakesFrom view cells left after) is takes

  pub unknown_taken : (taken : Next) (name : List ℕ) → taken ≡ next.Unknown name → TakesFrom view cells left after taken
      → (left ≡ name ∷ after) × (is_among view cells name ≡ false)
  unknown_taken taken name is takes = subst (TakesFrom view cells left after) is takes

  pub none_taken : (taken : Option (List ℕ)) → taken ≡ None → Takes view cells left after taken
      → (left ≡ after) ⊎ ((name : List ℕ) × (left ≡ name ∷ after) × (is_among view cells name ≡ true))
  none_taken taken is takes = subst (Takes view cells left after) is takes
