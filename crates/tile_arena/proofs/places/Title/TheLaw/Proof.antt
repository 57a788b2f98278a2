-- A `&` to a title lends nothing. Assumes `Logic`.
use denote.RattleType.{RattleType}
use denote.RawPtr.{RawPtr}
use denote.Param.Laws.{Laws}
use denote.Param.Shared.{copy_shared}
use denote.SharingLaws.{nothing_shr_laws}
use denote.Struct.Laws.{field_copy}
use denote.Struct.Lending.{of_Lends, Lends-nothing}
use Rattle.std.specs.declared.alloc.Allocator.{Ghosts}
use Rattle.std.specs.contracts.marker.PhantomData as marker
use Rattle.tile_arena.specs.contracts.places.Title as Title
use Rattle.tile_arena.proofs.places.Title.TheLaw.Statement.{statement}

pub shares : (R A : RattleType) (g : Ghosts A.Denot) (laws : Laws R) (others : Laws A) → statement R A g laws others
shares R A g laws others =
    let mark = copy_shared (marker.the_field RawPtr) (field_copy (marker.the_type RawPtr) tt) in
    of_Lends (Title.struct R A g) (Title.the_codes R.Denot A.Denot R.coded A.coded (marker.the_row RawPtr).coded) (Title.the_heap R A g)
    (Title.the_lent R A g) (λ title p. nothing_shr_laws) (mark, tt)
    (λ M 𝓤 𝓛 title p. Lends-nothing 𝓛 (Title.the_heap R A g title) (Title.the_row R A g).lives)
