-- Lines cut from a source's bytes: what the cutter holds, and what `advance` finds of the bytes that lie ahead.
use Rattle.std.specs.Prelude.{ℕ, ◌≡◌, ◌+◌, ◌<◌, ◌≤◌, Bool, true, false, List, [], ◌∷◌, ◌++◌, length, take, drop, Option}
use Rattle.std.specs.Prelude.{Some, None, Result, Ok, Err}
use Rattle.std.specs.List.{slice_range}
use Rattle.std.specs.Io.KnownBytes.{prepend_known}
use Rattle.road_time.specs.Lines.{lines_of}
use Rattle.road_io.specs.declared.cutter.LineCutter.{LineCutter}
use Rattle.road_io.specs.declared.cutter.LineFault.{LineFault}
use Rattle.road_io.specs.declared.cutter.LineFault.TheVariants.{ReadFault, LongLine}
use Rattle.road_io.specs.declared.cutter.Cut.{Cut}
use Rattle.road_io.specs.declared.cutter.Cut.TheVariants.{Line, Long, More}

-- the bytes that were read and are in no line yet
abbrev pub held : LineCutter → List ℕ
held c = slice_range c.buf.items c.start c.end

-- the current line
abbrev pub line_of : LineCutter → List ℕ
line_of c = slice_range c.buf.items c.from c.to

-- the bytes that the last line took, its end included
abbrev pub rest_of : LineCutter → List ℕ
rest_of c = slice_range c.buf.items c.from c.start

-- the number of the current line, from 1: how many lines were cut
abbrev pub line_number : LineCutter → ℕ
line_number c = c.number

-- the fault that stopped the cutter, if one did
abbrev pub fault_of : LineCutter → Option LineFault
fault_of c = c.fault

-- the bytes that lie ahead, where the source tells what it has left
abbrev pub ahead : LineCutter → Option (List ℕ) → Option (List ℕ)
ahead c left = prepend_known (held c) left

-- there is a first line, and it has at least n bytes
abbrev pub FirstHas : ℕ → List (List ℕ) → Type 0
FirstHas n [] = ⊥
FirstHas n (line ∷ lines) = n ≤ length line

-- an answer of `advance`: the first line of the bytes ahead is the current one, or nothing is there, or the first line
-- is long; a fault takes nothing
abbrev pub Cuts : Result Bool LineFault → Option (List ℕ) → Option (List ℕ) → List ℕ → Type 0
Cuts r None after line = Unit {0}
Cuts (Ok true) (Some before) None line = ⊥
Cuts (Ok true) (Some before) (Some after) line = lines_of before ≡ line ∷ lines_of after
Cuts (Ok false) (Some before) after line = (before ≡ []) × (after ≡ Some [])
Cuts (Err (LongLine n)) (Some before) after line = FirstHas 201 (lines_of before) × (after ≡ Some before)
Cuts (Err ReadFault) (Some before) after line = after ≡ Some before

-- what stands first in held bytes
abbrev pub IsCut : Cut → List ℕ → Type 0
IsCut (Line k) bytes =
    (k ≤ 200) × (k < length bytes)
    × ((more : List ℕ) → lines_of (bytes ++ more) ≡ take k bytes ∷ lines_of (drop (k + 1) bytes ++ more))
IsCut Long bytes = (more : List ℕ) → FirstHas 201 (lines_of (bytes ++ more))
IsCut More bytes = (length bytes ≤ 200) × (0 < length bytes → lines_of bytes ≡ bytes ∷ [])

-- what an answer of `advance` leaves, where n lines were cut before: the line's bytes with its end are at most 201
abbrev pub StandsCut : Result Bool LineFault → ℕ → LineCutter → Type 0
StandsCut (Ok true) n c = (line_number c ≡ n + 1) × (length (line_of c) ≤ 200) × (fault_of c ≡ None)
    × (length (rest_of c) ≤ 201)
StandsCut (Ok false) n c = (line_number c ≡ n) × (line_of c ≡ []) × (rest_of c ≡ []) × (fault_of c ≡ None)
StandsCut (Err (LongLine k)) n c = (k ≡ n + 1) × (line_number c ≡ n) × (rest_of c ≡ []) ×
    (fault_of c ≡ Some (LongLine k))
StandsCut (Err ReadFault) n c = (line_number c ≡ n) × (rest_of c ≡ []) × (fault_of c ≡ Some ReadFault)
