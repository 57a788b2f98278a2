-- What is read of calls.
use Rattle.file_laws.proofs.Common.{◌≡◌, ◌≤◌, ℕ, ℤ, pos, negsuc, Bool, true, false, not, List, [], ◌∷◌, ◌++◌, map, Option, None, refl, subst, ◌∙◌}
use Rattle.file_laws.proofs.Common.{arith, FitsSigned, ◌*ℤ◌, codes, and_from, decimal, line_of, Orient, Transform, CifItem, Call, CifMove, CifSymbol}
use Rattle.file_laws.proofs.Common.{placing, CifFault, Draft}
use Rattle.std.specs.Int.{w32}
use Rattle.std.specs.List.{AllByRecursion, flat_map, list_all}
use Rattle.geo_core.specs.declared.orients.Orient.TheVariants.{R0, R90, R180, R270, Mx, My, Mx90, My90}
use Rattle.cif_forms.specs.declared.commands.CifCommand.TheVariants.{Call as SaidCall}
use Rattle.cif_forms.specs.declared.commands.SaidMove.{SaidMove}
use Rattle.cif_forms.specs.declared.commands.SaidMove.TheVariants.{Shift, MirrorX, Toward}
use Rattle.cif_forms.specs.Written.{move_words, with_semicolon, MoveFits}
use Rattle.cif_forms.proofs.WrittenLaws.{says-call, unmarked-call}
use Rattle.cif_model.specs.declared.cifs.CifMove.TheVariants.{Shift as Shifted}
use Rattle.cif_model.specs.Placings.{turning}
use Rattle.cif_reading.specs.declared.faults.CifFault.TheVariants.{Form, LeftOut, NoSymbol, NotWhole, Range}
use Rattle.cif_reading.specs.Boxes.{is_in_range}
use Rattle.cif_reading.specs.Drafts.{has_symbol, scale_of, symbol_place}
use Rattle.cif_reading.specs.Faults.{fault_in, lacks_semicolon, uses_what_is_left_out}
use Rattle.cif_reading.specs.SaidSteps.{call_is_in_range, is_along_axis, move_is_in_range, move_is_whole, move_said}
use Rattle.cif_writing.specs.Commands.{call_command, mirror_words, plain_call, shift_words, turn_words}
use Rattle.file_laws.proofs.HalfNumbers.{half, count_fits, fits_in_range, shift_read, shift_whole, twice_fits, IsNear, near_edge}
use Rattle.file_laws.proofs.ReadCommands.{behind_symbols, in_symbol, not_so, passes}
use Rattle.file_laws.proofs.ReadLines.{Reads, reads_one}

-- an orientation as the steps that are written
abbrev said_turning : Orient → List SaidMove
said_turning R0 = []
said_turning R90 = Toward (pos 0) (pos 1) ∷ []
said_turning R180 = Toward (negsuc 0) (pos 0) ∷ []
said_turning R270 = Toward (pos 0) (negsuc 0) ∷ []
said_turning My = MirrorX ∷ []
said_turning My90 = MirrorX ∷ Toward (pos 0) (pos 1) ∷ []
said_turning Mx = MirrorX ∷ Toward (negsuc 0) (pos 0) ∷ []
said_turning Mx90 = MirrorX ∷ Toward (pos 0) (negsuc 0) ∷ []

-- its words are those of the call
turning_words : (orient : Orient) (moves : List SaidMove)
    → flat_map move_words (said_turning orient ++ moves) ≡ mirror_words orient ++ (turn_words orient ++ flat_map move_words moves)
turning_words R0 moves = refl
turning_words R90 moves = refl
turning_words R180 moves = refl
turning_words R270 moves = refl
turning_words My moves = refl
turning_words My90 moves = refl
turning_words Mx moves = refl
turning_words Mx90 moves = refl

-- and they are read as its steps
turning_read : (orient : Orient) (moves : List SaidMove)
    → map (move_said half) (said_turning orient ++ moves) ≡ turning orient ++ map (move_said half) moves
turning_read R0 moves = refl
turning_read R90 moves = refl
turning_read R180 moves = refl
turning_read R270 moves = refl
turning_read My moves = refl
turning_read My90 moves = refl
turning_read Mx moves = refl
turning_read Mx90 moves = refl

turning_fits : (orient : Orient) (moves : List SaidMove) → AllByRecursion MoveFits moves → AllByRecursion MoveFits (said_turning orient ++ moves)
turning_fits orient moves fit = by orient
  where
    none : FitsSigned w32 (pos 0)
    none = count_fits 0 (omega arith)

    up : FitsSigned w32 (pos 1)
    up = count_fits 1 (omega arith)

    down : FitsSigned w32 (negsuc 0)
    down = record { sfits = omega arith }

    by : (o : Orient) → AllByRecursion MoveFits (said_turning o ++ moves)
    by R0 = fit
    by R90 = ((none, up), fit)
    by R180 = ((down, none), fit)
    by R270 = ((none, down), fit)
    by My = (tt, fit)
    by My90 = (tt, ((none, up), fit))
    by Mx = (tt, ((down, none), fit))
    by Mx90 = (tt, ((none, down), fit))

-- What passes a test with each turn and each mirroring passes it with an orientation.
turning_passes : (test : SaidMove → Bool) → test MirrorX ≡ true → test (Toward (pos 0) (pos 1)) ≡ true
    → test (Toward (negsuc 0) (pos 0)) ≡ true → test (Toward (pos 0) (negsuc 0)) ≡ true → (orient : Orient) (moves : List SaidMove)
    → list_all test moves ≡ true → list_all test (said_turning orient ++ moves) ≡ true
turning_passes test mirror left round right orient moves all = by orient
  where
    one : (move : SaidMove) (others : List SaidMove) → test move ≡ true → list_all test others ≡ true → list_all test (move ∷ others) ≡ true
    one move others first rest = and_from (test move) (list_all test others) first rest

    by : (o : Orient) → list_all test (said_turning o ++ moves) ≡ true
    by R0 = all
    by R90 = one (Toward (pos 0) (pos 1)) moves left all
    by R180 = one (Toward (negsuc 0) (pos 0)) moves round all
    by R270 = one (Toward (pos 0) (negsuc 0)) moves right all
    by My = one MirrorX moves mirror all
    by My90 = one MirrorX (Toward (pos 0) (pos 1) ∷ moves) mirror (one (Toward (pos 0) (pos 1)) moves left all)
    by Mx = one MirrorX (Toward (negsuc 0) (pos 0) ∷ moves) mirror (one (Toward (negsuc 0) (pos 0)) moves round all)
    by Mx90 = one MirrorX (Toward (pos 0) (negsuc 0) ∷ moves) mirror (one (Toward (pos 0) (negsuc 0)) moves right all)

-- ---- calls of any steps

call_fine : (draft : Draft) (n : ℤ) (moves : List SaidMove) → list_all is_along_axis moves ≡ true → call_is_in_range n moves ≡ true
    → has_symbol n draft.symbols ≡ true → list_all (move_is_whole (scale_of draft.opened)) moves ≡ true
    → fault_in draft true (SaidCall n moves false) ≡ None
unfolding uses_what_is_left_out lacks_semicolon
call_fine draft n moves along range there whole =
    let whole_row : List (Bool × CifFault) = (not (list_all (move_is_whole (scale_of draft.opened)) moves), NotWhole) ∷ [] in
    let symbol_row : List (Bool × CifFault) = (not (has_symbol n draft.symbols), NoSymbol) ∷ whole_row in
    let range_row : List (Bool × CifFault) = (not (call_is_in_range n moves), Range) ∷ symbol_row in
    passes (not (list_all is_along_axis moves)) LeftOut ((false, Form) ∷ (false, Form) ∷ range_row) (not_so (list_all is_along_axis moves) along)
    (passes (not (call_is_in_range n moves)) Range symbol_row (not_so (call_is_in_range n moves) range)
    (passes (not (has_symbol n draft.symbols)) NoSymbol whole_row (not_so (has_symbol n draft.symbols) there)
    (passes (not (list_all (move_is_whole (scale_of draft.opened)) moves)) NotWhole []
    (not_so (list_all (move_is_whole (scale_of draft.opened)) moves) whole) refl)))

call_in_range : (n : ℤ) (moves : List SaidMove) → is_in_range n ≡ true → list_all move_is_in_range moves ≡ true → call_is_in_range n moves ≡ true
unfolding call_is_in_range
call_in_range n moves one all = and_from (is_in_range n) (list_all move_is_in_range moves) one all

-- ---- a call as an element stands

module _ (element : Transform) where
  -- its steps as they are said
  abbrev said_moves : List SaidMove
  said_moves = said_turning element.orient ++ Shift (pos 2 *ℤ element.dx) (pos 2 *ℤ element.dy) ∷ []

  said_words : flat_map move_words said_moves ≡ mirror_words element.orient ++ (turn_words element.orient ++ shift_words element)
  said_words = turning_words element.orient (Shift (pos 2 *ℤ element.dx) (pos 2 *ℤ element.dy) ∷ [])

  said_read : map (move_said half) said_moves ≡ placing element
  said_read =
      turning_read element.orient (Shift (pos 2 *ℤ element.dx) (pos 2 *ℤ element.dy) ∷ [])
      ∙ (λ i. turning element.orient ++ Shifted (shift_read element.dx i) (shift_read element.dy i) ∷ [])

  said_along : list_all is_along_axis said_moves ≡ true
  said_along =
      turning_passes is_along_axis refl refl refl refl element.orient (Shift (pos 2 *ℤ element.dx) (pos 2 *ℤ element.dy) ∷ []) refl

  said_whole : list_all (move_is_whole half) said_moves ≡ true
  said_whole =
      turning_passes (move_is_whole half) refl refl refl refl element.orient (Shift (pos 2 *ℤ element.dx) (pos 2 *ℤ element.dy) ∷ [])
      (and_from _ _ (and_from _ _ (shift_whole element.dx) (shift_whole element.dy)) refl)

  module _ (dx : IsNear element.dx) (dy : IsNear element.dy) where
    said_fits : AllByRecursion MoveFits said_moves
    said_fits =
        turning_fits element.orient (Shift (pos 2 *ℤ element.dx) (pos 2 *ℤ element.dy) ∷ []) ((twice_fits element.dx dx, twice_fits element.dy dy), tt)

    said_in_range : list_all move_is_in_range said_moves ≡ true
    said_in_range =
        turning_passes move_is_in_range refl refl refl refl element.orient (Shift (pos 2 *ℤ element.dx) (pos 2 *ℤ element.dy) ∷ [])
        (and_from _ _ (and_from _ _ (fits_in_range (pos 2 *ℤ element.dx) (twice_fits element.dx dx))
        (fits_in_range (pos 2 *ℤ element.dy) (twice_fits element.dy dy))) refl)

    -- The call adds the call of the symbol with this number, by the steps that place the element.
    pub call_read : (number n : ℕ) (layer : Option (List ℕ)) (layers : List (List ℕ)) (symbols : List CifSymbol) (items : List CifItem)
        → number ≤ near_edge → has_symbol (pos number) symbols ≡ true
        → Reads (call_command number element ∷ []) (in_symbol n layer layers symbols items)
        (in_symbol n layer layers symbols (items ++ Call (symbol_place (pos number) symbols) (placing element) ∷ []))
    call_read number n layer layers symbols items few there =
        let old = in_symbol n layer layers symbols items in
        let fits = count_fits number few in
        let read : Reads (with_semicolon (line_of (codes "C" ∷ decimal (pos number) ∷ flat_map move_words said_moves)) ∷ []) old
        (in_symbol n layer layers symbols (items ++ Call (symbol_place (pos number) symbols) (map (move_said half) said_moves) ∷ [])) =
        reads_one (line_of (codes "C" ∷ decimal (pos number) ∷ flat_map move_words said_moves)) (SaidCall (pos number) said_moves false) old
        (unmarked-call (pos number) said_moves) (says-call (pos number) said_moves fits said_fits) refl
        (call_fine old (pos number) said_moves said_along (call_in_range (pos number) said_moves (fits_in_range (pos number) fits) said_in_range)
        there said_whole) in
        subst (λ (words : List (List ℕ)). Reads (with_semicolon (line_of (codes "C" ∷ decimal (pos number) ∷ words)) ∷ []) old
        (in_symbol n layer layers symbols (items ++ Call (symbol_place (pos number) symbols) (placing element) ∷ []))) said_words
        (subst (λ (moves : List CifMove). Reads (with_semicolon (line_of (codes "C" ∷ decimal (pos number) ∷ flat_map move_words said_moves)) ∷ []) old
        (in_symbol n layer layers symbols (items ++ Call (symbol_place (pos number) symbols) moves ∷ []))) said_read read)

-- ---- a call at the top level

-- the call at the top level is its one item
pub top_read : (number : ℕ) (layers : List (List ℕ)) (symbols : List CifSymbol) → number ≤ near_edge → has_symbol (pos number) symbols ≡ true
    → Reads (plain_call number ∷ []) (behind_symbols layers symbols)
    (record (behind_symbols layers symbols) { top = Call (symbol_place (pos number) symbols) [] ∷ [] })
top_read number layers symbols few there =
    let fits = count_fits number few in
    let old = behind_symbols layers symbols in
    reads_one (line_of (codes "C" ∷ decimal (pos number) ∷ [])) (SaidCall (pos number) [] false) old (unmarked-call (pos number) [])
    (says-call (pos number) [] fits tt) refl
    (call_fine old (pos number) [] refl (call_in_range (pos number) [] (fits_in_range (pos number) fits) refl) there refl)
