-- What the files, sources and sinks in memory show.
use Rattle.std.specs.Prelude.{◌≡◌, ℕ, ◌-◌, min, List, [], length, Option, Some, unwrap_or, Result, IfOk}
use Rattle.std.specs.BTreeMap.{get_by_text}
use Rattle.host_io.specs.declared.memory_files.MemoryFiles.{MemoryFiles}
use Rattle.host_io.specs.declared.calm.CalmFiles.{CalmFiles}
use Rattle.host_io.specs.CallCount.{CallCount}

-- the bytes under a name, if it is there
abbrev pub file_of : MemoryFiles → List ℕ → Option (List ℕ)
file_of files name = get_by_text files.files name

-- the bytes that are told: none of a name that is not there, which no call reads
abbrev pub told_of : MemoryFiles → List ℕ → Option (List ℕ)
told_of files name = Some (unwrap_or (file_of files name) [])

abbrev pub calls_of : MemoryFiles → CallCount
calls_of files = files.calls

-- the bytes under a name, none where it is not there
abbrev pub calm_file_of : CalmFiles → List ℕ → List ℕ
calm_file_of files name = unwrap_or (get_by_text files.files name) []

-- `Ok(k)` has filled the buffer as far as there are bytes from `at` on
abbrev pub Fills : {E : Type 0} → List ℕ → ℕ → List ℕ → Result ℕ E → Type 0
Fills bytes at into r = IfOk r (λ k. k ≡ min (length bytes - at) (length into))
