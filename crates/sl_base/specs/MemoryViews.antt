-- What clauses see of files and a sink in memory.
use Rattle.std.specs.Prelude.{◌≡◌, ◌⊎◌, List, ℕ, Option, None, length, Contains}
use Rattle.sl_base.specs.Memory.{MemFile, left_in, names_of, IsBlamed}
use Rattle.sl_base.specs.declared.outside.mem_files.MemFiles.{MemFiles}
use Rattle.sl_base.specs.declared.outside.mem_sink.MemSink.{MemSink}

-- the files, with the bytes that are not read yet
abbrev pub mem_files : MemFiles → List MemFile
mem_files m = m.files.items

abbrev pub mem_left : MemFiles → List ℕ → Option (List ℕ)
mem_left m name = left_in m.files.items name

abbrev pub mem_names : MemFiles → List (List ℕ)
mem_names m = names_of m.files.items

-- how many bytes a read gives at most
abbrev pub mem_chunk : MemFiles → ℕ
mem_chunk m = m.chunk

-- the numbers, from 0, of the reads that fail
abbrev pub mem_fails : MemFiles → List ℕ
mem_fails m = m.fails.items

-- the number of the next read
abbrev pub mem_calls : MemFiles → ℕ
mem_calls m = m.calls

abbrev pub mem_faults : MemFiles → ℕ
mem_faults m = m.faults

abbrev pub mem_blamed : MemFiles → List ℕ → Type 0
mem_blamed m name = IsBlamed m.files.items m.blame name

-- the next read of this name fails
abbrev pub ReadFails : MemFiles → List ℕ → Type 0
ReadFails m name = Contains m.fails.items m.calls ⊎ (left_in m.files.items name ≡ None)

-- the bytes taken so far
abbrev pub sink_bytes : MemSink → List ℕ
sink_bytes s = s.bytes.items

abbrev pub sink_chunk : MemSink → ℕ
sink_chunk s = s.chunk

-- how many bytes the sink takes in all
abbrev pub sink_room : MemSink → ℕ
sink_room s = s.room

-- the numbers, from 0, of the writes that fail
abbrev pub sink_fails : MemSink → List ℕ
sink_fails s = s.fails.items

-- the number of the next write
abbrev pub sink_calls : MemSink → ℕ
sink_calls s = s.calls

abbrev pub sink_faults : MemSink → ℕ
sink_faults s = s.faults

-- the next write fails
abbrev pub WriteFails : MemSink → Type 0
WriteFails s = Contains s.fails.items s.calls ⊎ (length s.bytes.items ≡ s.room)
