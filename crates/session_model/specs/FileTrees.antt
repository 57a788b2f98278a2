-- Trees of files: what a file says leads to further names, whose files are read after it.
use Rattle.std.specs.Prelude.{◌≡◌, ℕ, Bool, true, false, List, [], ◌∷◌, ◌++◌, map, Option, Result, Ok, Err}
use Rattle.outside_io.specs.Files.{Files, bytes_of}
use Rattle.outside_io.specs.CallPlans.{CallPlan}
use Rattle.session_model.specs.Effects.{after_fetches}
use Rattle.session_model.specs.Fetches.{AgreeOn}

-- A kind of files, each of which says something: the file of a name; the names that are passed over where these were read; what a name's
-- file gives then, or why it is refused; the name under which something was read, and the names that it leads to.
pub record FileKind (Said Fault : Type 0) : Type 0 where
  pub file : List ℕ → List ℕ
  pub is_known : List Said → List ℕ → Bool
  pub gives : Files → List Said → List ℕ → Result Said Fault
  pub name : Said → List ℕ
  pub leads_to : Said → List (List ℕ)

-- What reading came to: all that was read, in its order; or what was read before the name whose file is refused, that name, and why.
pub data Reading (Said Fault : Type 0) : Type 0 where
  All : List Said → Reading Said Fault
  Stopped : List Said → List ℕ → Fault → Reading Said Fault

-- Where these were read and the files of these names are to be read next, in their order, reading comes to this. A name that is known is
-- passed over. What a file leads to is read before the names that stood behind its own: depth first, in its order, each name once.
pub data Reads {Said Fault : Type 0} (kind : FileKind Said Fault) (files : Files) : List Said → List (List ℕ) → Reading Said Fault → Type 0 where
  end : {read : List Said} → Reads kind files read [] (All read)
  passed : {read : List Said} {name : List ℕ} {names : List (List ℕ)} {reading : Reading Said Fault}
      → kind.is_known read name ≡ true → Reads kind files read names reading → Reads kind files read (name ∷ names) reading
  opened : {read : List Said} {name : List ℕ} {names : List (List ℕ)} {reading : Reading Said Fault} {said : Said}
      → kind.is_known read name ≡ false → kind.gives files read name ≡ Ok said
      → Reads kind files (read ++ said ∷ []) (kind.leads_to said ++ names) reading → Reads kind files read (name ∷ names) reading
  stop : {read : List Said} {name : List ℕ} {names : List (List ℕ)} {fault : Fault}
      → kind.is_known read name ≡ false → kind.gives files read name ≡ Err fault
      → Reads kind files read (name ∷ names) (Stopped read name fault)

-- the files of what was read
abbrev pub files_of : {Said Fault : Type 0} → FileKind Said Fault → List Said → List (List ℕ)
files_of kind read = map kind.file (map kind.name read)

-- the files that reading asked for, in their order
abbrev pub fetched_by : {Said Fault : Type 0} → FileKind Said Fault → Reading Said Fault → List (List ℕ)
fetched_by kind (All read) = files_of kind read
fetched_by kind (Stopped read name fault) = files_of kind read ++ kind.file name ∷ []

-- Reading goes on from these, where these names are left, to those: what it comes to from there, it comes to from here.
abbrev pub GoesOn : {Said Fault : Type 0} → FileKind Said Fault → Files → List Said → List (List ℕ) → List Said → List (List ℕ) → Type 0
GoesOn {Said} {Fault} kind files read left read_after left_after =
    (reading : Reading Said Fault) → Reads kind files read_after left_after reading → Reads kind files read left reading

-- Reading from here stops at a file that is refused.
pub record StopsAt {Said Fault : Type 0} (kind : FileKind Said Fault) (files : Files) (read : List Said) (left : List (List ℕ)) (told : Fault) : Type 0 where
  pub read_before : List Said
  pub name : List ℕ
  pub stops : Reads kind files read left (Stopped read_before name told)

-- Reading from here stops at a file that is refused. Where the shelf was called once for each file that was read before, it was then called
-- once for each that reading asks for until it stops.
abbrev pub StopsAsking : {Said Fault : Type 0} → FileKind Said Fault → Files → List Said → List (List ℕ) → Option CallPlan → Option CallPlan → Fault
    → Type 0
StopsAsking kind files read left old new told =
    (stops : StopsAt kind files read left told)
    × ((first : Option CallPlan) → old ≡ after_fetches first (files_of kind read)
    → new ≡ after_fetches first (fetched_by kind (Stopped stops.read_before stops.name told)))

-- Reading from the root stops at a file that is refused, and these files were asked for.
pub record FileIsRefused {Said Fault : Type 0} (kind : FileKind Said Fault) (files : Files) (root : List ℕ) (fetched : List (List ℕ)) (told : Fault)
    : Type 0 where
  pub read : List Said
  pub name : List ℕ
  pub stops : Reads kind files [] (root ∷ []) (Stopped read name told)
  pub fetched_are : fetched ≡ fetched_by kind (Stopped read name told)

-- What a name's file gives rests on that file alone, and is read under the name.
pub record GivesByFile {Said Fault : Type 0} (kind : FileKind Said Fault) : Type 0 where
  pub same : (files others : Files) (read : List Said) (name : List ℕ) → bytes_of others (kind.file name) ≡ bytes_of files (kind.file name)
      → kind.gives others read name ≡ kind.gives files read name
  pub named : (files : Files) (read : List Said) (name : List ℕ) (said : Said) → kind.gives files read name ≡ Ok said → kind.name said ≡ name

-- Reading a tree of files comes to one end.
abbrev pub ReadingIsOne : Type 0 → Type 0 → Type 0
ReadingIsOne Said Fault =
    (kind : FileKind Said Fault) (files : Files) (read : List Said) (left : List (List ℕ)) (one other : Reading Said Fault)
    → Reads kind files read left one → Reads kind files read left other → one ≡ other

-- And it rests on no files but those that it asks for.
abbrev pub ReadingRestsOnFetched : Type 0 → Type 0 → Type 0
ReadingRestsOnFetched Said Fault =
    (kind : FileKind Said Fault) → GivesByFile kind → (files others : Files) (read : List Said) (left : List (List ℕ)) (reading : Reading Said Fault)
    → Reads kind files read left reading → AgreeOn (fetched_by kind reading) files others → Reads kind others read left reading
