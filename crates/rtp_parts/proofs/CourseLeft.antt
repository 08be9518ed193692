-- What is left of a list when its first packet is given out.
use Rattle.std.proofs.Common.{◌≡◌, ℕ, ◌+◌, ◌≤◌, if◌then◌else◌, true, false, Bool, List, [], ◌∷◌, ◌++◌, replicate, map, refl, sym, ap, subst, ◌∙◌, Option, Some, None, ◌⊎◌, inl, inr}
use Rattle.rtp_parts.specs.declared.unpacker.Stream.{Stream}
use Rattle.rtp_parts.specs.declared.unpacker.Unpacker.{Unpacker}
use Rattle.rtp_parts.specs.Arrivals.{records_in}
use Rattle.rtp_parts.specs.Sorting.{Numbered, codes_from, gap_before, end_of}
use Rattle.rtp_parts.specs.Steps.{Line, Course, with_first, with_records, course_of, course_left, codes_left, counts_in, numbered_of, start_line, whole_course, whole_codes}
use Rattle.rtp_parts.proofs.Course.{run-first}

by_end : (ended : Bool) (a : Numbered) (stream : Option Stream) (line : Line) (packets : ℕ) (records : List (Option (List ℕ))) → (ended ≡ true) ⊎ (a.number + 64 ≤ line.greatest) → (stream ≡ None → ⊥) → with_records (record { stream = stream; line = with_first a line; packets = packets }) (if ended then [] else records) ≡ (let rest = with_records (record { stream = stream; line = line; packets = packets }) (if ended then [] else records) in record rest { line = with_first a rest.line })
by_end true a stream line packets records due some = refl
by_end false a None line packets records due some = absurd (some refl)
by_end false a (Some stream) line packets records (inl e) some = absurd (cc e)
by_end false a (Some stream) line packets records (inr due) some = run-first a stream line packets records due

-- a packet that is held tells that the stream is known
stream_known : (u : Unpacker) (a : Numbered) (line : List Numbered) → map numbered_of u.window.held.items ≡ a ∷ line → u.stream ≡ None → ⊥
stream_known u a line is none =
    let empty : map numbered_of u.window.held.items ≡ [] = ap (map numbered_of) (u.idle none) in
    let both : ◌≡◌ {A = List Numbered} (a ∷ line) [] = sym is ∙ empty in
    absurd (cc both)

-- the first packet is the first of all that are left
pub left-first : (a : Numbered) (u v : Unpacker) (rest : List ℕ) → course_of u ≡ record (course_of v) { line = with_first a (course_of v).line } → u.ended ≡ v.ended → (u.ended ≡ true) ⊎ (a.number + 64 ≤ u.window.greatest) → course_left u rest ≡ (let left = course_left v rest in record left { line = with_first a left.line })
unfolding course_left
left-first a u v rest is ended due =
    let stream : u.stream ≡ v.stream = ap (λ (c : Course). c.stream) is in
    let greatest : u.window.greatest ≡ v.window.greatest = ap (λ (c : Course). c.line.greatest) is in
    let there : map numbered_of u.window.held.items ≡ a ∷ (course_of v).line.line = ap (λ (c : Course). c.line.line) is in
    let due_there : (v.ended ≡ true) ⊎ (a.number + 64 ≤ v.window.greatest) =
    subst (λ (b : Bool). (b ≡ true) ⊎ (a.number + 64 ≤ v.window.greatest)) ended (subst (λ (n : ℕ). (u.ended ≡ true) ⊎ (a.number + 64 ≤ n)) greatest due) in
    ap (λ (c : Course). with_records c (if u.ended then [] else records_in rest)) is
    ∙ ap (λ (e : Bool). with_records (record (course_of v) { line = with_first a (course_of v).line }) (if e then [] else records_in rest)) ended
    ∙ by_end v.ended a v.stream (course_of v).line v.packets (records_in rest) due_there (λ none. stream_known u a (course_of v).line.line there (stream ∙ none))

pub same-left : (u v : Unpacker) (rest : List ℕ) → course_of u ≡ course_of v → u.ended ≡ v.ended → course_left u rest ≡ course_left v rest
unfolding course_left
same-left u v rest is ended =
    ap (λ (c : Course). with_records c (if u.ended then [] else records_in rest)) is
    ∙ ap (λ (e : Bool). with_records (course_of v) (if e then [] else records_in rest)) ended

pub codes-given : (silence count : ℕ) (payload : List ℕ) (first u v : Unpacker) (a : Numbered) (before rest : List ℕ) → course_left first before ≡ course_left u rest → course_left u rest ≡ (let left = course_left v rest in record left { line = with_first a left.line }) → v.end ≡ Some (end_of a) → count ≡ gap_before first.end a.timestamp → payload ≡ a.payload → codes_left silence first before ≡ replicate count silence ++ payload ++ codes_left silence v rest
unfolding codes_left
codes-given silence count payload first u v a before rest is given ends counted paid =
    ap (λ (c : Course). codes_from silence first.end c.line.line) (is ∙ given)
    ∙ ap (λ (e : Option ℕ). replicate (gap_before first.end a.timestamp) silence ++ a.payload ++ codes_from silence e (course_left v rest).line.line) (sym ends)
    ∙ ap (λ (n : ℕ). replicate n silence ++ a.payload ++ codes_left silence v rest) (sym counted)
    ∙ ap (λ (p : List ℕ). replicate count silence ++ p ++ codes_left silence v rest) (sym paid)

pub counts-given : (first u v : Unpacker) (a : Numbered) (before rest : List ℕ) → course_left first before ≡ course_left u rest → course_left u rest ≡ (let left = course_left v rest in record left { line = with_first a left.line }) → counts_in (course_left first before) ≡ counts_in (course_left v rest)
counts-given first u v a before rest is given = ap counts_in (is ∙ given)

left-ended : (u : Unpacker) (rest : List ℕ) → u.ended ≡ true → course_left u rest ≡ course_of u
unfolding course_left
left-ended u rest ended = ap (λ (e : Bool). with_records (course_of u) (if e then [] else records_in rest)) ended

pub codes-none : (silence : ℕ) (first u : Unpacker) (before rest : List ℕ) → course_left first before ≡ course_left u rest → u.ended ≡ true → map numbered_of u.window.held.items ≡ [] → codes_left silence first before ≡ []
unfolding codes_left
codes-none silence first u before rest is ended empty =
    ap (λ (c : Course). codes_from silence first.end c.line.line) (is ∙ left-ended u rest ended)
    ∙ ap (codes_from silence first.end) empty

pub counts-none : (first u : Unpacker) (before rest : List ℕ) → course_left first before ≡ course_left u rest → u.ended ≡ true → counts_in (course_left first before) ≡ counts_in (course_of u)
counts-none first u before rest is ended = ap counts_in (is ∙ left-ended u rest ended)

pub start-course : (u : Unpacker) (rest : List ℕ) → course_of u ≡ record { stream = None; line = start_line; packets = 0 } → u.ended ≡ false → course_left u rest ≡ whole_course rest
unfolding course_left whole_course
start-course u rest is going =
    ap (λ (e : Bool). with_records (course_of u) (if e then [] else records_in rest)) going
    ∙ ap (λ (c : Course). with_records c (records_in rest)) is

pub start-codes : (silence : ℕ) (u : Unpacker) (rest : List ℕ) → course_of u ≡ record { stream = None; line = start_line; packets = 0 } → u.ended ≡ false → u.end ≡ None → codes_left silence u rest ≡ whole_codes silence rest
unfolding codes_left
start-codes silence u rest is going first =
    ap (λ (e : Option ℕ). codes_from silence e (course_left u rest).line.line) first
    ∙ ap (λ (c : Course). codes_from silence None c.line.line) (start-course u rest is going)

-- a step that takes a record leaves the same
pub left-on : (first u mid v : Unpacker) (before rest after : List ℕ) → course_left first before ≡ course_left u rest → course_left v after ≡ course_left mid rest → course_of u ≡ course_of mid → u.ended ≡ mid.ended → course_left first before ≡ course_left v after
left-on first u mid v before rest after is taken same ended = is ∙ same-left u mid rest same ended ∙ sym taken
