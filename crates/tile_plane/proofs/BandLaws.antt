-- What laying one band does: its squares are set, its rows are wide, the other rows and what is far from it are kept.
use Rattle.tile_plane.proofs.Common.{◌≡◌, ◌⊎◌, inl, inr, ℕ, ℤ, pos, ◌+ℤ◌, ◌-ℤ◌, ◌≤ℤ◌, ◌<ℤ◌, [], ◌∷◌, refl, sym, ◌∙◌, ap, subst, arith, ints, by_lt_z}
use Rattle.tile_plane.proofs.Common.{Square, Rect, Piece, IsNear, Covers, IsProper, plane_range, AreSet, Tiles, tile_at, Owns, IsPartition, value_at}
use Rattle.tile_plane.proofs.Common.{square_at, IsWideAt, band_of, IsBandLaid, IsBandFree, IsWideBeside, IsOpenFrom, AreKept}
use Rattle.tile_plane.proofs.HandLaws.{covers_or_not}
use Rattle.tile_plane.proofs.ValueLaws.{value_of_owner, value_off_range}
use Rattle.tile_plane.proofs.LaidLaws.{area_owns}
use Rattle.tile_plane.proofs.KeptLaws.{IsRowKept, owns_beside, row_beside, row_wide, row_begun}

module _ (band : Piece) (id : ℕ) (old new : Tiles) (p : IsPartition old) (q : IsPartition new) (band_laid : IsBandLaid band id old new)
    (proper : IsProper band.area) (near : IsNear band.area) (free : IsBandFree band.area old) where
  abbrev pub area : Rect
  area = band_laid.area

  -- the tile to the left of the band, whose rows it has
  left_owner : (l : ℕ) × Owns old l (square_at (band.area.xlo -ℤ pos 1) band.area.ylo)
  left_owner =
      let x = near.xlo in
      let x' = near.xhi in
      let y = near.ylo in
      let y' = near.yhi in
      let wide = proper.wide in
      p.whole (square_at (band.area.xlo -ℤ pos 1) band.area.ylo)
      (record { right_of_xlo = omega (arith, ints); left_of_xhi = omega (arith, ints); above_ylo = omega (arith, ints); below_yhi = omega (arith, ints) })

  right_owner : (r : ℕ) × Owns old r (square_at band.area.xhi band.area.ylo)
  right_owner =
      let x = near.xlo in
      let x' = near.xhi in
      let y = near.ylo in
      let y' = near.yhi in
      let wide = proper.wide in
      p.whole (square_at band.area.xhi band.area.ylo)
      (record { right_of_xlo = omega (arith, ints); left_of_xhi = omega (arith, ints); above_ylo = omega (arith, ints); below_yhi = omega (arith, ints) })

  left_ends : (tile_at old left_owner.0).area.xhi ≡ band.area.xlo
  left_ends = by_lt_z band.area.xlo (tile_at old left_owner.0).area.xhi
      (λ past.
      let c = left_owner.1.covers in
      let e = free.left left_owner.0 (owns_beside old left_owner.0 (band.area.xlo -ℤ pos 1) band.area.xlo band.area.ylo left_owner.1 (omega (arith, ints))
      past) in
      absurd (omega (arith, ints)))
      (λ before. let c = left_owner.1.covers in omega (arith, ints))

  right_begins : (tile_at old right_owner.0).area.xlo ≡ band.area.xhi
  right_begins = free.right right_owner.0 right_owner.1

  left_rows : (x h : ℤ) → band.area.ylo ≤ℤ h → h <ℤ band.area.yhi → (tile_at old left_owner.0).area.xlo ≤ℤ x → x <ℤ band.area.xlo
      → Owns old left_owner.0 (square_at x h)
  left_rows x h from to low less =
      let c = left_owner.1.covers in
      let top = free.high.reach left_owner.0 (band.area.xlo -ℤ pos 1) (omega (arith, ints)) (let wide = proper.wide in omega (arith, ints)) left_owner.1 in
      let end = left_ends in
      record { covers = record { right_of_xlo = low; left_of_xhi = omega (arith, ints); above_ylo = omega (arith, ints); below_yhi = omega (arith, ints) } }

  right_rows : (x h : ℤ) → band.area.ylo ≤ℤ h → h <ℤ band.area.yhi → band.area.xhi ≤ℤ x → x <ℤ (tile_at old right_owner.0).area.xhi
      → Owns old right_owner.0 (square_at x h)
  right_rows x h from to low less =
      let c = right_owner.1.covers in
      let top = free.high.reach right_owner.0 band.area.xhi (let wide = proper.wide in omega (arith, ints)) (omega (arith, ints)) right_owner.1 in
      let begin = right_begins in
      record { covers = record { right_of_xlo = omega (arith, ints); left_of_xhi = less; above_ylo = omega (arith, ints); below_yhi = omega (arith, ints) } }

  pub low : area.xlo ≤ℤ band.area.xlo
  low = elim (band_laid.left left_owner.0 left_owner.1) [
    | inl at ↦ (let e = at.0 in omega (arith, ints))
    | inr at ↦ (let e = at.0 in let c = left_owner.1.covers in omega (arith, ints))
  ]

  pub high : band.area.xhi ≤ℤ area.xhi
  high = elim (band_laid.right right_owner.0 right_owner.1) [
    | inl at ↦ (let e = at.0 in omega (arith, ints))
    | inr at ↦ (let e = at.0 in let c = right_owner.1.covers in omega (arith, ints))
  ]

  -- what is laid beyond the band was of its value
  beyond_left : (x h : ℤ) → Covers area (square_at x h) → x <ℤ band.area.xlo
      → Owns old left_owner.0 (square_at x h) × ((tile_at old left_owner.0).value ≡ band.value)
  beyond_left x h covers less =
      let from = band_laid.low in
      let to = band_laid.high in
      elim (band_laid.left left_owner.0 left_owner.1) [
        | inl at ↦ (let e = at.0 in absurd (omega (arith, ints)))
        | inr at ↦ (let e = at.0 in (left_rows x h (omega (arith, ints)) (omega (arith, ints)) (omega (arith, ints)) less, at.1))
      ]

  beyond_right : (x h : ℤ) → Covers area (square_at x h) → band.area.xhi ≤ℤ x
      → Owns old right_owner.0 (square_at x h) × ((tile_at old right_owner.0).value ≡ band.value)
  beyond_right x h covers more =
      let from = band_laid.low in
      let to = band_laid.high in
      elim (band_laid.right right_owner.0 right_owner.1) [
        | inl at ↦ (let e = at.0 in absurd (omega (arith, ints)))
        | inr at ↦ (let e = at.0 in (right_rows x h (omega (arith, ints)) (omega (arith, ints)) more (omega (arith, ints)), at.1))
      ]

  -- and what lies beside that is not
  next_left : (k : ℕ) (h : ℤ) → IsWideBeside band.area old h → band.area.ylo ≤ℤ h → h <ℤ band.area.yhi → Owns old k (square_at (area.xlo -ℤ pos 1) h)
      → (tile_at old k).value ≡ band.value → ⊥
  next_left k h wide from to owns value =
      let wider = proper.wide in
      let c = left_owner.1.covers in
      let d = owns.covers in
      elim (band_laid.left left_owner.0 left_owner.1) [
        | inl at ↦ (
            let there : Owns old k (square_at (band.area.xlo -ℤ pos 1) h) = subst (λ (v : ℤ). Owns old k (square_at (v -ℤ pos 1) h)) at.0 owns in
            let one = p.one k left_owner.0 _ there (left_rows (band.area.xlo -ℤ pos 1) h from to (omega (arith, ints)) (omega (arith, ints))) in
            at.1 (subst (λ (v : ℕ). (tile_at old v).value ≡ band.value) one value))
        | inr at ↦ (
            let e = at.0 in
            let one = wide.apart k left_owner.0 (area.xlo -ℤ pos 1) (λ n. omega (arith, ints)) (λ n. omega (arith, ints)) owns
            (left_rows (area.xlo -ℤ pos 1 +ℤ pos 1) h from to (omega (arith, ints)) (omega (arith, ints))) (value ∙ sym at.1) in
            let begin : (tile_at old k).area.xlo ≡ (tile_at old left_owner.0).area.xlo = ap (λ (v : ℕ). (tile_at old v).area.xlo) one in
            omega (arith, ints))
      ]

  next_right : (k : ℕ) (x h : ℤ) → x +ℤ pos 1 ≡ area.xhi → IsWideBeside band.area old h → band.area.ylo ≤ℤ h → h <ℤ band.area.yhi
      → Owns old k (square_at (x +ℤ pos 1) h) → (tile_at old k).value ≡ band.value → ⊥
  next_right k x h end wide from to owns value =
      let wider = proper.wide in
      let c = right_owner.1.covers in
      let d = owns.covers in
      let begin = right_begins in
      elim (band_laid.right right_owner.0 right_owner.1) [
        | inl at ↦ (
            let e = at.0 in
            let one = p.one k right_owner.0 _ owns (right_rows (x +ℤ pos 1) h from to (omega (arith, ints)) (omega (arith, ints))) in
            at.1 (subst (λ (v : ℕ). (tile_at old v).value ≡ band.value) one value))
        | inr at ↦ (
            let e = at.0 in
            let one = wide.apart right_owner.0 k x (λ n. omega (arith, ints)) (λ n. omega (arith, ints))
            (right_rows x h from to (omega (arith, ints)) (omega (arith, ints))) owns (at.1 ∙ sym value) in
            let last : (tile_at old right_owner.0).area.xhi ≡ (tile_at old k).area.xhi = ap (λ (v : ℕ). (tile_at old v).area.xhi) one in
            omega (arith, ints))
      ]

  here : (s : Square) → Covers area s → Owns new id s
  here s covers = area_owns new id area s band_laid.laid.here covers

  is_here : (k : ℕ) (s : Square) → Owns new k s → Covers area s → k ≡ id
  is_here k s owns covers = q.one k id s owns (here s covers)

  -- so the rows of the band are wide
  pub band_wide : (h : ℤ) → band.area.ylo ≤ℤ h → h <ℤ band.area.yhi → IsWideBeside band.area old h → IsWideAt new h
  band_wide h from to wide = record {
    apart = λ a b x r s same. elim (covers_or_not area (square_at x h)) [
      | inl covers ↦ elim (covers_or_not area (square_at (x +ℤ pos 1) h)) [
        | inl both ↦ is_here a (square_at x h) r covers ∙ sym (is_here b (square_at (x +ℤ pos 1) h) s both)
        | inr out ↦ (
            let g = band_laid.laid.elsewhere b (square_at (x +ℤ pos 1) h) s out in
            let value : (tile_at old g.0).value ≡ band.value =
            sym g.2.value ∙ sym same ∙ ap (λ (v : ℕ). (tile_at new v).value) (is_here a (square_at x h) r covers) ∙ band_laid.laid.value_here in
            let end : x +ℤ pos 1 ≡ area.xhi = by_lt_z (x +ℤ pos 1) area.xhi
            (λ less. absurd (out (record {
              right_of_xlo = omega (arith, ints);
              left_of_xhi = less;
              above_ylo = covers.above_ylo;
              below_yhi = covers.below_yhi;
            })))
            (λ more. omega (arith, ints)) in
            absurd (next_right g.0 x h end wide from to g.1 value))
      ]
      | inr out ↦ elim (covers_or_not area (square_at (x +ℤ pos 1) h)) [
        | inl covers ↦ (
            let f = band_laid.laid.elsewhere a (square_at x h) r out in
            let value : (tile_at old f.0).value ≡ band.value =
            sym f.2.value ∙ same ∙ ap (λ (v : ℕ). (tile_at new v).value) (is_here b (square_at (x +ℤ pos 1) h) s covers) ∙ band_laid.laid.value_here in
            let end : x ≡ area.xlo -ℤ pos 1 = by_lt_z x area.xlo
            (λ less. omega (arith, ints))
            (λ more. absurd (out (record {
              right_of_xlo = more;
              left_of_xhi = omega (arith, ints);
              above_ylo = covers.above_ylo;
              below_yhi = covers.below_yhi;
            }))) in
            absurd (next_left f.0 h wide from to (subst (λ (v : ℤ). Owns old f.0 (square_at v h)) end f.1) value))
        | inr far ↦ (
            let f = band_laid.laid.elsewhere a (square_at x h) r out in
            let g = band_laid.laid.elsewhere b (square_at (x +ℤ pos 1) h) s far in
            let l = low in
            let m = high in
            let wider = proper.wide in
            let y = band_laid.low in
            let y' = band_laid.high in
            let one = wide.apart f.0 g.0 x
            (λ e. far (record {
              right_of_xlo = omega (arith, ints);
              left_of_xhi = omega (arith, ints);
              above_ylo = omega (arith, ints);
              below_yhi = omega (arith, ints);
            }))
            (λ e. out (record {
              right_of_xlo = omega (arith, ints);
              left_of_xhi = omega (arith, ints);
              above_ylo = omega (arith, ints);
              below_yhi = omega (arith, ints);
            }))
            f.1 g.1 (sym f.2.value ∙ same ∙ g.2.value) in
            let c = (subst (λ (v : ℕ). Owns old v (square_at (x +ℤ pos 1) h)) (sym one) g.1).covers in
            let end = f.2.xhi in
            let begin = r.covers in
            q.one a b (square_at (x +ℤ pos 1) h) (owns_beside new a x (x +ℤ pos 1) h r (omega (arith, ints)) (omega (arith, ints))) s)
      ]
    ];
  }

  -- the other rows are as they were
  pub band_rows : (h : ℤ) → (h <ℤ band.area.ylo) ⊎ (band.area.yhi ≤ℤ h) → IsRowKept h old new
  band_rows h off = record {
    source = λ k x owns. band_laid.laid.elsewhere k (square_at x h) owns (λ covers.
        let y = band_laid.low in
        let y' = band_laid.high in
        elim off [ inl less ↦ omega (arith, ints) | inr more ↦ omega (arith, ints) ]);
  }

  -- the squares of the band are set
  pub band_set : AreSet (value_at old) (value_at new) (band ∷ [])
  band_set = record {
    set = λ piece i s covers. elim i [
      | inl e ↦ (
          let l = low in
          let m = high in
          let y = band_laid.low in
          let y' = band_laid.high in
          let c = subst (λ (v : Piece). Covers v.area s) (sym e) covers in
          let owns = here s (record {
            right_of_xlo = omega (arith, ints);
            left_of_xhi = omega (arith, ints);
            above_ylo = omega (arith, ints);
            below_yhi = omega (arith, ints);
          }) in
          value_of_owner new id s q owns ∙ band_laid.laid.value_here ∙ ap (λ (v : Piece). v.value) e)
      | inr none ↦ absurd none
    ];
    others = λ s none. elim (covers_or_not plane_range s) [
      | inr off ↦ value_off_range new s q off ∙ sym (value_off_range old s p off)
      | inl inside ↦ elim (covers_or_not area s) [
        | inr out ↦ (
            let owner = q.whole s inside in
            let f = band_laid.laid.elsewhere owner.0 s owner.1 out in
            value_of_owner new owner.0 s q owner.1 ∙ f.2.value ∙ sym (value_of_owner old f.0 s p f.1))
        | inl covers ↦ (
            let now : value_at new s ≡ band.value = value_of_owner new id s q (here s covers) ∙ band_laid.laid.value_here in
            let y = band_laid.low in
            let y' = band_laid.high in
            by_lt_z s.x band.area.xlo
            (λ less. let b = beyond_left s.x s.y covers less in now ∙ sym b.1 ∙ sym (value_of_owner old left_owner.0 s p b.0))
            (λ more. by_lt_z s.x band.area.xhi
            (λ in_band. absurd (none band (inl refl)
            (record { right_of_xlo = more; left_of_xhi = in_band; above_ylo = omega (arith, ints); below_yhi = omega (arith, ints) })))
            (λ past. let b = beyond_right s.x s.y covers past in now ∙ sym b.1 ∙ sym (value_of_owner old right_owner.0 s p b.0))))
      ]
    ];
  }

  -- what is far from a piece of the same columns is kept
  pub band_kept : (whole : Rect) → whole.xlo ≡ band.area.xlo → whole.xhi ≡ band.area.xhi → whole.ylo ≤ℤ band.area.ylo → band.area.yhi ≤ℤ whole.yhi
      → AreKept whole old new
  band_kept whole same_low same_high from to = record {
    far = λ j taken off. (band_laid.laid.untouched j taken (λ s covers owns.
        let c = owns.covers in
        elim off [
          | inl less ↦ (
              let b = beyond_left s.x s.y covers (omega (arith, ints)) in
              let one = p.one j left_owner.0 s owns b.0 in
              let end : (tile_at old j).area.xhi ≡ band.area.xlo = ap (λ (v : ℕ). (tile_at old v).area.xhi) one ∙ left_ends in
              omega (arith, ints))
          | inr more ↦ (
              let b = beyond_right s.x s.y covers (omega (arith, ints)) in
              let one = p.one j right_owner.0 s owns b.0 in
              let begin : (tile_at old j).area.xlo ≡ band.area.xhi = ap (λ (v : ℕ). (tile_at old v).area.xlo) one ∙ right_begins in
              omega (arith, ints))
        ])).area;
    rows = λ j x y off r s.
        let l = band_laid.low in
        let h = band_laid.high in
        let tall = proper.high in
        band_laid.laid.upright j x y r s
        (λ e. elim off [ inl less ↦ omega (arith, ints) | inr more ↦ omega (arith, ints) ])
        (λ e. elim off [ inl less ↦ omega (arith, ints) | inr more ↦ omega (arith, ints) ]);
  }

-- One band after another: the state of the rows from the first to the second height.
pub open_on : (piece : Piece) (id : ℕ) (y top : ℤ) (old new : Tiles) → IsPartition old → IsPartition new → IsBandLaid (band_of piece y top) id old new
    → IsProper (band_of piece y top).area
    → IsNear (band_of piece y top).area → IsBandFree (band_of piece y top).area old → top ≤ℤ piece.area.yhi → IsOpenFrom piece.area y old
    → IsOpenFrom piece.area top new
open_on piece id y top old new p q laid proper near free to state = record {
  wide = λ h off. by_lt_z h y
      (λ less. row_wide old new h q (rows h (inl less)) (state.wide h (inl less)))
      (λ more. by_lt_z h top
      (λ in_band. band_wide (band_of piece y top) id old new p q laid proper near free h more in_band (aside h (state.beside h more (omega (arith, ints)))))
      (λ past. elim off [
        | inl under ↦ absurd (omega (arith, ints))
        | inr over ↦ row_wide old new h q (rows h (inr past)) (state.wide h (inr over))
      ]));
  beside = λ h from less. row_beside old new h q (rows h (inr from)) piece.area (state.beside h (after h from) less);
  left = record {
    begin = λ k h from less owns. row_begun old new h q (rows h (inr from)) piece.area.xlo (λ j. state.left.begin j h (after h from) less) k
        owns;
  };
  right = record {
    begin = λ k h from less owns. row_begun old new h q (rows h (inr from)) piece.area.xhi (λ j. state.right.begin j h (after h from) less) k
        owns;
  };
} where
  rows : (h : ℤ) → (h <ℤ y) ⊎ (top ≤ℤ h) → IsRowKept h old new
  rows = band_rows (band_of piece y top) id old new p q laid proper near free

  after : (h : ℤ) → top ≤ℤ h → y ≤ℤ h
  after h from = let tall = proper.high in omega (arith, ints)

  aside : (h : ℤ) → IsWideBeside piece.area old h → IsWideBeside (band_of piece y top).area old h
  aside h wide = record { apart = wide.apart }

-- Setting the rows up to a height and then those from there on.
pub set_on : (piece : Piece) (y top : ℤ) (old mid new : Square → ℕ) → piece.area.ylo ≤ℤ y → y ≤ℤ top → AreSet old mid (band_of piece piece.area.ylo y ∷ [])
    → AreSet mid new (band_of piece y top ∷ [])
    → AreSet old new (band_of piece piece.area.ylo top ∷ [])
set_on piece y top old mid new from to before last = record {
  set = λ other i s covers. elim i [
    | inl e ↦ (
        let c = subst (λ (v : Piece). Covers v.area s) (sym e) covers in
        by_lt_z s.y y
        (λ less. last.others s (λ last_piece j d. elim j [
          | inl f ↦ (let g = subst (λ (v : Piece). Covers v.area s) (sym f) d in let h = g.above_ylo in omega (arith, ints))
          | inr none ↦ none
        ]) ∙ before.set _ (inl refl) s (record { right_of_xlo = c.right_of_xlo; left_of_xhi = c.left_of_xhi; above_ylo = c.above_ylo; below_yhi = less }))
        (λ more. last.set _ (inl refl) s (record { right_of_xlo = c.right_of_xlo; left_of_xhi = c.left_of_xhi; above_ylo = more; below_yhi = c.below_yhi }))
        ∙ ap (λ (v : Piece). v.value) e)
    | inr none ↦ absurd none
  ];
  others = λ s none.
      last.others s (λ last_piece j d. elim j [
        | inl f ↦ (
            let g = subst (λ (v : Piece). Covers v.area s) (sym f) d in
            let h = g.above_ylo in
            none _ (inl refl) (record { right_of_xlo = g.right_of_xlo; left_of_xhi = g.left_of_xhi; above_ylo = omega (arith, ints); below_yhi = g.below_yhi }))
        | inr empty ↦ empty
      ])
      ∙ before.others s (λ first_piece j d. elim j [
        | inl f ↦ (
            let g = subst (λ (v : Piece). Covers v.area s) (sym f) d in
            let h = g.below_yhi in
            none _ (inl refl) (record { right_of_xlo = g.right_of_xlo; left_of_xhi = g.left_of_xhi; above_ylo = g.above_ylo; below_yhi = omega (arith, ints) }))
        | inr empty ↦ empty
      ]);
}
