-- A cabinet in memory with one more file, or one file changed.
use Rattle.std.proofs.Common.{◌≡◌, ℕ, suc, ◌+◌, ◌<◌, ◌≤◌, true, List, [], ◌∷◌, length, get_or, set, take, map, Some, None, refl, sym, ap, subst, ◌∙◌, arith}
use Rattle.std.proofs.lemmas.Bool.{le-leb}
use Rattle.std.proofs.lemmas.List.{take_more_set, get_or-take, length-take, map-append, length-map}
use Rattle.std.proofs.Math.Seq.{take-set-lt}
use Rattle.desk_outside.specs.declared.slots.Slot.{Slot}
use Rattle.desk_outside.specs.InMemory.{HeldFile, CabinetView, bytes_under, put_file, has_room, with_loaded}
use Rattle.desk_outside.specs.Slots.{file_in, files_in}
use Rattle.desk_outside.specs.Buffers.{BufferView}
use Rattle.desk_outside.specs.Places.{IsPlaceOf}
use Rattle.desk_outside.proofs.SlotLemmas.{bytes_there, put_there, put_behind}

pub room_for_held : (c : CabinetView) (name bytes old : List ℕ) → length bytes ≤ c.byte_limit → bytes_under c.files name ≡ Some old → has_room c name bytes ≡ true
room_for_held c name bytes old fits held = rw (le-leb (length bytes) c.byte_limit fits, held) refl

pub room_for_new : (c : CabinetView) (name bytes : List ℕ) → length bytes ≤ c.byte_limit → bytes_under c.files name ≡ None → length c.files < c.file_limit → length name ≤ 255 → has_room c name bytes ≡ true
room_for_new c name bytes fits absent place short =
    rw (le-leb (length bytes) c.byte_limit fits, absent, le-leb (suc (length c.files)) c.file_limit place, le-leb (length name) 255 short) refl

pub loaded : (c : CabinetView) (name bytes : List ℕ) (files : List HeldFile) → has_room c name bytes ≡ true → files ≡ put_file c.files name bytes → record c { files = files } ≡ with_loaded c name bytes
loaded c name bytes files room e = rw (room, e) refl

-- other bytes in the place of a name
pub files_changed : (slots : List Slot) (used at : ℕ) (name bytes : List ℕ) (new d : Slot) → at < used → IsPlaceOf (take used slots) name at → new.name.bytes ≡ (get_or (take used slots) at d).name.bytes → new.bytes.bytes ≡ bytes
    → files_in used (set slots at new) ≡ put_file (files_in used slots) name bytes
files_changed slots used at name bytes new d lt place named is =
    ap (map file_in) (take-set-lt used slots at new lt) ∙ put_there (take used slots) name bytes at new d place named is

-- a new file in the first place that is not used
pub files_longer : (slots : List Slot) (used : ℕ) (name bytes : List ℕ) (new : Slot) → used < length slots → bytes_under (files_in used slots) name ≡ None → new.name.bytes ≡ name → new.bytes.bytes ≡ bytes
    → files_in (used + 1) (set slots used new) ≡ put_file (files_in used slots) name bytes
files_longer slots used name bytes new lt absent named is =
    ap (map file_in) (take_more_set slots used new lt)
    ∙ map-append file_in (take used slots) (new ∷ [])
    ∙ rw (named, is) (sym (put_behind (files_in used slots) name bytes absent))

pub length-files_in : (slots : List Slot) (used : ℕ) → used ≤ length slots → length (files_in used slots) ≡ used
length-files_in slots used le = length-map (take used slots) file_in ∙ omega (arith, length-take used slots)

-- the bytes in the place that was found
pub file_there : (slots : List Slot) (used at : ℕ) (name : List ℕ) (slot : Slot) → used ≤ length slots → at < length (take used slots) → IsPlaceOf (take used slots) name at → slot ≡ get_or slots at slot → bytes_under (files_in used slots) name ≡ Some slot.bytes.bytes
file_there slots used at name slot le lt place is =
    let below : at < used = omega (arith, lt, length-take used slots) in
    bytes_there (take used slots) name at slot place ∙ ap (λ (s : Slot). Some s.bytes.bytes) (get_or-take used slots at slot below ∙ sym is)

-- after other bytes were put into the place of a name
pub loaded_over : (c : CabinetView) (slots seen : List Slot) (used at limit : ℕ) (name bytes : List ℕ) (old : Slot) (filled : BufferView)
    → c.files ≡ files_in used slots → seen ≡ slots → used ≤ length slots → at < length (take used seen) → IsPlaceOf (take used seen) name at → old ≡ get_or slots at old → filled.bytes ≡ bytes → length bytes ≤ c.byte_limit → limit ≡ c.file_limit
    → (has_room c name bytes ≡ true) × (record c { files = files_in used (set slots at (record { name = old.name; bytes = filled })); file_limit = limit } ≡ with_loaded c name bytes)
loaded_over c slots seen used at limit name bytes old filled are same le lt place is written fits limited =
    let within : at < length (take used slots) = subst (λ (s : List Slot). at < length (take used s)) same lt in
    let below : at < used = omega (arith, within, length-take used slots) in
    let here : IsPlaceOf (take used slots) name at = subst (λ (s : List Slot). IsPlaceOf (take used s) name at) same place in
    let held : bytes_under c.files name ≡ Some old.bytes.bytes = ap (λ (files : List HeldFile). bytes_under files name) are ∙ file_there slots used at name old le within here is in
    let room : has_room c name bytes ≡ true = room_for_held c name bytes old.bytes.bytes fits held in
    let named : old.name.bytes ≡ (get_or (take used slots) at old).name.bytes = ap (λ (s : Slot). s.name.bytes) (is ∙ sym (get_or-take used slots at old below)) in
    let changed = files_changed slots used at name bytes (record { name = old.name; bytes = filled }) old below here named written in
    (room, rw limited (loaded c name bytes _ room (changed ∙ ap (λ (files : List HeldFile). put_file files name bytes) (sym are))))

-- after a new file was put into the first place that was not used
pub loaded_behind : (c : CabinetView) (slots seen : List Slot) (used limit : ℕ) (name bytes : List ℕ) (named filled : BufferView)
    → c.files ≡ files_in used slots → seen ≡ slots → used < length slots → bytes_under (map file_in (take used seen)) name ≡ None → named.bytes ≡ name → filled.bytes ≡ bytes → length bytes ≤ c.byte_limit → length name ≤ 255 → length slots ≡ c.file_limit → limit ≡ c.file_limit
    → (has_room c name bytes ≡ true) × (record c { files = files_in (used + 1) (set slots used (record { name = named; bytes = filled })); file_limit = limit } ≡ with_loaded c name bytes)
loaded_behind c slots seen used limit name bytes named filled are same lt none is written fits short places limited =
    let absent : bytes_under (files_in used slots) name ≡ None = subst (λ (s : List Slot). bytes_under (files_in used s) name ≡ None) same none in
    let missing : bytes_under c.files name ≡ None = ap (λ (files : List HeldFile). bytes_under files name) are ∙ absent in
    let count : length c.files ≡ used = ap length are ∙ length-files_in slots used (omega arith) in
    let room : has_room c name bytes ≡ true = room_for_new c name bytes fits missing (omega arith) short in
    let longer = files_longer slots used name bytes (record { name = named; bytes = filled }) lt absent is written in
    (room, rw limited (loaded c name bytes _ room (longer ∙ ap (λ (files : List HeldFile). put_file files name bytes) (sym are))))
