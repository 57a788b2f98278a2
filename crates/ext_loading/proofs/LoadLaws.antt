-- What is given at the end.
use Rattle.ext_loading.proofs.Common.{ℕ, List, [], ◌∷◌, inl, inr, refl, sym, ap, subst, Option, Files, CallPlan, GivesFetching, All, Reads}
use Rattle.ext_loading.proofs.Common.{StopsAsking, files_of, ArrayExt, ExtLoadFault, AreRead, CanBeFlattened, IsFitTree, LoadGives, LoadIsRefused}
use Rattle.ext_loading.proofs.Common.{circuit_files, GivesTree, IsTree}
use Rattle.session_model.proofs.FileTreeLaws.{file_refused_asking}
use Rattle.ext_loading.specs.declared.loading.LoadedExts.{LoadedExts}
use Rattle.ext_loading.specs.declared.loading.LoadedExts.TheVariants as loaded
use Rattle.ext_loading.proofs.CycleLaws.{may_be_flattened}

-- what is given of a tree that was read is what the files say
pub tree_given : (files : Files) (root : List ℕ) (read : List ArrayExt) (given : LoadedExts) → Reads circuit_files files [] (root ∷ []) (All read)
    → GivesTree read given → LoadGives files root given (files_of circuit_files read)
tree_given files root read (loaded.Records exts) reads gives = (
  subst (AreRead files root) (sym gives.0) (record { reads = reads; acyclic = gives.1 }),
  ap (files_of circuit_files) (sym gives.0),
)
tree_given files root read (loaded.Refused told) reads gives =
    inr (record {
      read = read;
      reads = reads;
      ext = gives.0;
      cell = gives.1.0;
      first = gives.1.1.0;
      is = gives.1.1.1;
      fetched_are = refl;
    })

-- and may be flattened
pub tree_fits : (root : List ℕ) (read : List ArrayExt) (given : LoadedExts) → IsTree root read → GivesTree read given → IsFitTree root given
tree_fits root read (loaded.Records exts) tree gives =
    subst (CanBeFlattened root) (sym gives.0) (may_be_flattened root read tree gives.1)
tree_fits root read (loaded.Refused told) tree gives = tt

-- a file that is refused refuses the tree
pub file_refuses : (files : Files) (root : List ℕ) (old new : Option CallPlan) (told : ExtLoadFault)
    → StopsAsking circuit_files files [] (root ∷ []) old new told → GivesFetching (λ fetched. LoadIsRefused files root fetched told) old new
file_refuses files root old new told stops =
    let (fetched, refused, asked) = file_refused_asking circuit_files files root old new told stops in
    (fetched, inl refused, asked)
