use Rattle.workspace.proofs.Common.{◌≡◌, ◌++◌, Some, drop, map, seen, kept_store}
use Rattle.workspace.proofs.extractions.records_stored.Given as goal

-- the files so far and those of the cells that are left are the files of all
abbrev pub invariant-loop-extracted : goal.invariant-loop-extracted
invariant-loop-extracted l =
    map (λ store. Some store) l.stores.items ++ map (kept_store (seen l.library) l.cache) (drop l.extracted-index l.made)
    ≡ map (kept_store (seen l.library) l.cache) l.made
