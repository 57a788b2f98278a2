-- What holds of every answer but that the call failed outside.
use Rattle.std.specs.Prelude.{Result, Ok, Err}
use Rattle.outside_io.specs.declared.faults.PutFault.{PutFault}
use Rattle.outside_io.specs.declared.faults.PutFault.TheVariants as put
use Rattle.outside_io.specs.declared.faults.ShelfFault.{ShelfFault}
use Rattle.outside_io.specs.declared.faults.ShelfFault.TheVariants as fetch
use Rattle.outside_io.specs.declared.faults.ReadAllFault.{ReadAllFault}
use Rattle.outside_io.specs.declared.faults.ReadAllFault.TheVariants as read

-- P, unless the call could not put the bytes
abbrev pub UnlessPutFailed : {T : Type 0} → Result T PutFault → Type 0 → Type 0
UnlessPutFailed (Ok value) P = P
UnlessPutFailed (Err put.Failed) P = Unit {0}
UnlessPutFailed (Err put.Memory) P = P

-- P, unless the call could not fetch the file
abbrev pub UnlessFetchFailed : {T : Type 0} → Result T ShelfFault → Type 0 → Type 0
UnlessFetchFailed (Ok value) P = P
UnlessFetchFailed (Err fetch.Absent) P = P
UnlessFetchFailed (Err fetch.TooLong) P = P
UnlessFetchFailed (Err fetch.Failed) P = Unit {0}
UnlessFetchFailed (Err fetch.Memory) P = P

-- P, unless the call could not read
abbrev pub UnlessReadFailed : {T : Type 0} → Result T ReadAllFault → Type 0 → Type 0
UnlessReadFailed (Ok value) P = P
UnlessReadFailed (Err read.TooLong) P = P
UnlessReadFailed (Err read.Failed) P = Unit {0}
UnlessReadFailed (Err read.Memory) P = P

-- what a file's reading to its end answers of the file
abbrev pub fetch_fault_of : ReadAllFault → ShelfFault
fetch_fault_of read.TooLong = fetch.TooLong
fetch_fault_of read.Failed = fetch.Failed
fetch_fault_of read.Memory = fetch.Memory
