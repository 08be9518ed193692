-- A work's step is the machine's.
use Rattle.std.proofs.Common.{◌≡◌, ℕ, ◌+◌, ◌-◌, ◌*◌, ◌≤◌, Bool, true, false, List, [], ◌++◌, length, map, take, drop, refl, ap, sym, subst, ◌∙◌, arith}
use Rattle.std.specs.Prelude.{Option, Some, None, option_map, is_some}
use Rattle.std.specs.Io.KnownBytes.{append_known}
use Rattle.std.proofs.Math.ListN.{get_or}
use Rattle.std.proofs.Math.Seq.{get_or-append_right}
use Rattle.omx_types.specs.declared.format.Format.TheVariants.{Auto}
use Rattle.omx_types.specs.declared.fault.PartFault.{PartFault}
use Rattle.omx_types.specs.declared.fault.PartFault.TheVariants.{Read, Write, Short}
use Rattle.omx_types.specs.declared.kind.Kind.{Kind}
use Rattle.omx_types.specs.Formats.{frame_bytes_of}
use Rattle.part_api.specs.declared.attached.Attached.{Attached}
use Rattle.part_api.specs.declared.attached.Attached.TheVariants.{From, To}
use Rattle.part_api.specs.Streams.{Incoming, Shape, with_file}
use Rattle.part_api.specs.Terms.{Terms, begun}
use Rattle.part_forms.specs.Kinds.{is_source}
use Rattle.part_forms.specs.Shapes.{shape_of}
use Rattle.part_forms.specs.Sinking.{writes_of}
use Rattle.audio_parts.specs.FileTerms.{IsOfKind, IsOfTerms}
use Rattle.audio_parts.specs.Ready.{FitsFile, IsReady}
use Rattle.audio_parts.specs.Shapes.{IsLawful}
use Rattle.il_machine.specs.Claims.{CarriedHeader}
use Rattle.il_machine.specs.Parts.{bytes_given, file_format, frames_left, frames_of}
use Rattle.il_machine.specs.World.{Stream}
use Rattle.il_machine.specs.Whole.{HasDone, PartSeen}
use Rattle.il_machine.specs.Stepping.{WorkDone, Gives, IsBrokenStep, IsWholeStep, format_at, incoming, input_piece, inputs_ended, is_fault_of, is_over, step_frames, stepped, text_of}
use Rattle.header_core.specs.BufferHeader.{BufferHeader}
use Rattle.il_flow.specs.declared.layout.Layout.{Layout}
use Rattle.il_flow.specs.Layouts.{IsLaidOut}
use Rattle.il_flow.specs.Places.{carried_from}
use Rattle.il_flow.specs.Steps.{IsLeft, WasBroken, WasDone, came_in, frames_by, over_by}
use Rattle.il_flow.specs.Works.{ComesBack}
use Rattle.il_flow.proofs.Coming.{came}
use Rattle.il_flow.proofs.Counting.{are_there, source_ports}
use Rattle.il_flow.proofs.Laying.{all_at}
use Rattle.il_flow.proofs.Least.{frames_are, over_is}
use Rattle.il_flow.proofs.Plain.{all_stepped, lawful_same}
use Rattle.il_flow.proofs.Told.{IsGiven, append_twice, given, still_writing, sub_twice, text_is}

-- what is known of a part before its step
pub record IsSet (t : Terms) (sh : Shape) (l : Layout) (s : Stream) (p : PartSeen) (left : Option ℕ) : Type 0 where
  pub lawful : IsLawful t
  pub fits : IsReady t false
  pub shape : sh ≡ shape_of t
  pub laid : IsLaidOut l t sh
  pub writing : IsOfTerms t p.writing
  pub some : is_some left ≡ is_source t.kind
  pub left_is : left ≡ p.left
  pub has_done : HasDone t false s p

some_is : (a b : ℕ) → Some a ≡ Some b → a ≡ b
some_is a b e = cc

pub is_left : (t : Terms) (s : Stream) (p : PartSeen) (failed : Bool) (left : Option ℕ) → is_some left ≡ is_source t.kind → left ≡ p.left → HasDone t failed s p → IsLeft left t s
is_left t s p failed None some e h = sym some
is_left t s p failed (Some n) some e h = (sym some, some_is n (frames_left t s) (e ∙ h.left (sym some)))

-- ---- a source's file

none_of : (n frames : ℕ) → n ≤ 0 - frames → n ≡ 0
none_of n frames h = omega arith

none_by : (a n b : ℕ) → n ≡ 0 → 0 * a ≡ n * b
none_by a n b e = omega (arith, ap (λ k. k * b) e)

-- the frames of its file have the bytes of its output's frames; a source without one gives none
file_bytes : (t : Terms) (sh : Shape) (s : Stream) (n : ℕ) (file : Option Attached) → t.file ≡ file → FitsFile t file → length t.outputs ≡ 1 → frame_bytes_of (get_or t.outputs 0 Auto) ≡ sh.output_frame
    → n ≤ frames_of file - s.frames → n * sh.output_frame ≡ n * frame_bytes_of (file_format file)
file_bytes t sh s n None e fits one size few = ap (λ k. k * sh.output_frame) (none_of n s.frames few) ∙ none_by sh.output_frame n (frame_bytes_of (file_format None)) (none_of n s.frames few)
file_bytes t sh s n (Some (To frames)) e fits one size few = ap (λ k. k * sh.output_frame) (none_of n s.frames few) ∙ none_by sh.output_frame n (frame_bytes_of (file_format (Some (To frames)))) (none_of n s.frames few)
file_bytes t sh s n (Some (From format frames)) e fits one size few =
    ap (λ k. n * k) (sym size ∙ ap frame_bytes_of (sym (all_at (λ port. format ≡ port) t.outputs 0 Auto fits (omega (arith, one)))))

source_bytes : (t : Terms) (sh : Shape) (l : Layout) (s : Stream) (n : ℕ) → IsLawful t → IsReady t false → IsLaidOut l t sh → is_source t.kind ≡ true → n ≤ frames_left t s
    → n * sh.output_frame ≡ n * frame_bytes_of (file_format t.file)
source_bytes t sh l s n lawful fits laid source few =
    let ports = source_ports t.kind source in
    let none : length t.inputs ≡ 0 = lawful.input_count ∙ ports.0 in
    let one : length t.outputs ≡ 1 = lawful.output_count ∙ ports.1 in
    let inputs = laid.terms.inputs in
    let outputs = laid.outputs in
    let at : format_at t 0 ≡ get_or t.outputs 0 Auto = get_or-append_right t.inputs t.outputs 0 Auto (omega (arith, none)) ∙ ap (λ k. get_or t.outputs (0 - k) Auto) none ∙ refl in
    let size : frame_bytes_of (get_or t.outputs 0 Auto) ≡ sh.output_frame =
    ap frame_bytes_of (sym at) ∙ laid.terms.output 0 (omega (arith, none, inputs)) (omega (arith, one)) ∙ sym (laid.output_frame (omega (arith, one, outputs))) in
    file_bytes t sh s n t.file refl fits.file one size few

-- ---- a whole step

abbrev pub IsWholeBy : ℕ → Bool → Terms → Stream → List CarriedHeader → WorkDone → Type 0
IsWholeBy n over t s hs done =
    (piece : List ℕ) × Gives t s n piece × (done.frames ≡ n) × (done.headers ≡ map (stepped t n (incoming t n hs piece) over) hs) × (done.took ≡ text_of t s n hs)

few_left : (t : Terms) (s : Stream) (left : Option ℕ) (n : ℕ) (hs : List CarriedHeader) → IsLeft left t s → is_source t.kind ≡ true → n ≡ frames_by left t hs → n ≤ frames_left t s
few_left t s None n hs h source e = absurd (cc)
few_left t s (Some k) n hs h source e = let a = are_there (Some k) t hs in let b = h.1 in omega (arith, a, b, e)

abbrev done_with : ℕ → ℕ → List CarriedHeader → List ℕ → WorkDone
done_with k n headers took = record { component = k; frames = n; fault = None; headers = headers; took = took }

headers_are : (t : Terms) (sh : Shape) (l : Layout) (s : Stream) (p p' : PartSeen) (left : Option ℕ) (n : ℕ) (over : Bool) (text piece : List ℕ) (carries : Incoming → Type 0)
    (before after : List (Option BufferHeader)) → IsSet t sh l s p left → (w : WasDone t sh n over p p' text carries before after) → (is_source t.kind ≡ true → w.piece ≡ piece)
    → carried_from 0 after ≡ map (stepped t n (incoming t n (carried_from 0 before) piece) over) (carried_from 0 before)
headers_are t sh l s p p' left n over text piece carries before after is w file =
    ap (carried_from 0) w.headers
    ∙ all_stepped t sh n (with_file w.piece (came_in t sh n before)) (incoming t n (carried_from 0 before) piece) over 0 before
    (λ output. ap (λ x. x.plain (with_file w.piece (came_in t sh n before)) output) is.shape
    ∙ lawful_same t (with_file w.piece (came_in t sh n before)) (incoming t n (carried_from 0 before) piece) output is.lawful (λ input b. came t sh l n before input is.laid b) file)

text_of_step : (t : Terms) (sh : Shape) (l : Layout) (s : Stream) (p : PartSeen) (left : Option ℕ) (n : ℕ) (before : List (Option BufferHeader)) → IsSet t sh l s p left
    → writes_of (begun n p.writing) ((came_in t sh n before).input 0) ≡ text_of t s n (carried_from 0 before)
text_of_step t sh l s p left n before is =
    text_is t s n ((came_in t sh n before).input 0) (input_piece t n (carried_from 0 before) 0) p.writing is.writing (λ planned file. is.has_done.writing planned file refl)
    (λ some. came t sh l n before 0 is.laid (omega (arith, some)))

whole_by : (t : Terms) (sh : Shape) (l : Layout) (s : Stream) (p p' : PartSeen) (left : Option ℕ) (k n : ℕ) (over : Bool) (text : List ℕ) (carries : Incoming → Type 0)
    (before after : List (Option BufferHeader)) (source : Bool) → is_source t.kind ≡ source → IsSet t sh l s p left → n ≡ frames_by left t (carried_from 0 before)
    → WasDone t sh n over p p' text carries before after → ((came : Incoming) → is_source t.kind ≡ true → carries came → length came.file ≡ n * sh.output_frame)
    → text ≡ text_of t s n (carried_from 0 before)
    → IsWholeBy n over t s (carried_from 0 before) (done_with k n (carried_from 0 after) text)
whole_by t sh l s p p' left k n over text carries before after false e is frames w reads texts =
    ([], rw e refl, refl, headers_are t sh l s p p' left n over text [] carries before after is w (λ f. absurd (cc)), texts)
whole_by t sh l s p p' left k n over text carries before after true e is frames w reads texts =
    let few = few_left t s left n (carried_from 0 before) (is_left t s p false left is.some is.left_is is.has_done) e frames in
    let size : length w.piece ≡ n * frame_bytes_of (file_format t.file) = reads (with_file w.piece (came_in t sh n before)) e w.carried ∙ source_bytes t sh l s n is.lawful is.fits is.laid e few in
    let g : IsGiven s.known p'.rest (bytes_given t s) (n * frame_bytes_of (file_format t.file)) w.piece = given s.known p.rest p'.rest (bytes_given t s) (n * frame_bytes_of (file_format t.file)) w.piece size (is.has_done.rest e refl) w.read in
    (w.piece, rw e g.told, refl, headers_are t sh l s p p' left n over text w.piece carries before after is w (λ f. refl), texts)

pub whole_step : (t : Terms) (sh : Shape) (l : Layout) (s : Stream) (p p' : PartSeen) (left : Option ℕ) (k n : ℕ) (over : Bool) (text : List ℕ) (carries : Incoming → Type 0)
    (before after : List (Option BufferHeader)) → IsSet t sh l s p left → n ≡ frames_by left t (carried_from 0 before) → over ≡ over_by left t n (carried_from 0 before)
    → WasDone t sh n over p p' text carries before after → ((came : Incoming) → is_source t.kind ≡ true → carries came → length came.file ≡ n * sh.output_frame)
    → text ≡ writes_of (begun n p.writing) ((came_in t sh n before).input 0)
    → IsWholeStep t s (carried_from 0 before) (done_with k n (carried_from 0 after) text)
whole_step t sh l s p p' left k n over text carries before after is frames ends w reads texts =
    let hs = carried_from 0 before in
    let done = done_with k n (carried_from 0 after) text in
    let lefts = is_left t s p false left is.some is.left_is is.has_done in
    let by : IsWholeBy n over t s hs done =
    whole_by t sh l s p p' left k n over text carries before after (is_source t.kind) refl is frames w reads (texts ∙ text_of_step t sh l s p left n before is) in
    let at_end : IsWholeBy n (is_over t s n (inputs_ended t n hs)) t s hs done = subst (λ b. IsWholeBy n b t s hs done) (ends ∙ over_is t s left n hs lefts) by in
    subst (λ m. IsWholeBy m (is_over t s m (inputs_ended t m hs)) t s hs done) (frames ∙ frames_are t s left hs lefts) at_end

-- ---- what has gone through then

place_on : (a n b : ℕ) → a * b + n * b ≡ (a + n) * b
place_on a n b = omega arith

gave_on : (t : Terms) (sh : Shape) (l : Layout) (s : Stream) (p p' : PartSeen) (left : Option ℕ) (n : ℕ) (over : Bool) (text : List ℕ) (carries : Incoming → Type 0)
    (before after : List (Option BufferHeader)) → IsSet t sh l s p left → n ≡ frames_by left t (carried_from 0 before) → WasDone t sh n over p p' text carries before after
    → ((came : Incoming) → is_source t.kind ≡ true → carries came → length came.file ≡ n * sh.output_frame) → is_source t.kind ≡ true
    → p'.rest ≡ option_map (drop ((s.frames + n) * frame_bytes_of (file_format t.file))) s.known
gave_on t sh l s p p' left n over text carries before after is frames w reads source =
    let few = few_left t s left n (carried_from 0 before) (is_left t s p false left is.some is.left_is is.has_done) source frames in
    let size : length w.piece ≡ n * frame_bytes_of (file_format t.file) = reads (with_file w.piece (came_in t sh n before)) source w.carried ∙ source_bytes t sh l s n is.lawful is.fits is.laid source few in
    let g : IsGiven s.known p'.rest (bytes_given t s) (n * frame_bytes_of (file_format t.file)) w.piece = given s.known p.rest p'.rest (bytes_given t s) (n * frame_bytes_of (file_format t.file)) w.piece size (is.has_done.rest source refl) w.read in
    g.left ∙ ap (λ k. option_map (drop k) s.known) (place_on s.frames n (frame_bytes_of (file_format t.file)))

pub has_gone : (t : Terms) (sh : Shape) (l : Layout) (s : Stream) (p p' : PartSeen) (left : Option ℕ) (n : ℕ) (over : Bool) (text : List ℕ) (carries : Incoming → Type 0)
    (before after : List (Option BufferHeader)) → IsSet t sh l s p left → n ≡ frames_by left t (carried_from 0 before) → WasDone t sh n over p p' text carries before after
    → ((came : Incoming) → is_source t.kind ≡ true → carries came → length came.file ≡ n * sh.output_frame)
    → text ≡ writes_of (begun n p.writing) ((came_in t sh n before).input 0)
    → HasDone t false (record s { frames = s.frames + n; written = s.written ++ text }) p'
has_gone t sh l s p p' left n over text carries before after is frames w reads texts = record {
  left = λ source. w.left ∙ ap (option_map (λ there. there - n)) (is.has_done.left source) ∙ ap (λ k. Some k) (sub_twice (frames_of t.file) s.frames n);
  rest = λ source unfailed. gave_on t sh l s p p' left n over text carries before after is frames w reads source;
  kept = λ planned file. w.kept ∙ ap (λ o. append_known o text) (is.has_done.kept planned file) ∙ append_twice s.known s.written text;
  writing = λ planned file unfailed. still_writing t s n ((came_in t sh n before).input 0) text p.writing p'.writing (is.has_done.writing planned file refl) texts w.writing;
}

-- ---- a step that failed

fault_of : (kind : Kind) (fault : PartFault) → IsOfKind kind fault → is_fault_of kind fault ≡ true
fault_of kind Read h = h
fault_of kind Write h = rw h refl
fault_of kind (Short at size) h = h

abbrev failed_with : ℕ → PartFault → List CarriedHeader → List ℕ → WorkDone
failed_with k fault headers took = record { component = k; frames = 0; fault = Some fault; headers = headers; took = took }

-- the file took so many bytes of its text
pub broken_step : (t : Terms) (sh : Shape) (l : Layout) (s : Stream) (p p' : PartSeen) (left : Option ℕ) (k n : ℕ) (fault : PartFault) (text : List ℕ)
    (before after : List (Option BufferHeader)) → IsSet t sh l s p left → n ≡ frames_by left t (carried_from 0 before) → IsOfKind t.kind fault → after ≡ before
    → (w : WasBroken p p' text) → text ≡ writes_of (begun n p.writing) ((came_in t sh n before).input 0)
    → IsBrokenStep t s (carried_from 0 before) fault (failed_with k fault (carried_from 0 after) (take w.front.0 text))
broken_step t sh l s p p' left k n fault text before after is frames of_kind same w texts =
    let hs = carried_from 0 before in
    let whole : text ≡ text_of t s (step_frames t s hs) hs =
    texts ∙ text_of_step t sh l s p left n before is ∙ ap (λ m. text_of t s m hs) (frames ∙ frames_are t s left hs (is_left t s p false left is.some is.left_is is.has_done)) in
    (fault_of t.kind fault of_kind, refl, ap (carried_from 0) same, (w.front.0, subst (λ l. w.front.0 ≤ length l) whole w.front.1, ap (take w.front.0) whole))

no_more : (n : ℕ) → n ≡ n + 0
no_more n = omega arith

pub has_failed : (t : Terms) (sh : Shape) (l : Layout) (s : Stream) (p p' : PartSeen) (left : Option ℕ) (text : List ℕ) → IsSet t sh l s p left → (w : WasBroken p p' text)
    → HasDone t true (record s { frames = s.frames + 0; written = s.written ++ take w.front.0 text }) p'
has_failed t sh l s p p' left text is w = record {
  left = λ source. w.left ∙ is.has_done.left source ∙ ap (λ k. Some (frames_of t.file - k)) (no_more s.frames);
  rest = λ source unfailed. absurd (cc);
  kept = λ planned file. w.front.2 ∙ ap (λ o. append_known o (take w.front.0 text)) (is.has_done.kept planned file) ∙ append_twice s.known s.written (take w.front.0 text);
  writing = λ planned file unfailed. absurd (cc);
}

-- ---- the whole

-- what is known of a part whose step begins
pub record IsBegun (t : Terms) (sh : Shape) (l : Layout) (p : PartSeen) (left : Option ℕ) : Type 0 where
  pub lawful : IsLawful t
  pub fits : IsReady t false
  pub shape : sh ≡ shape_of t
  pub laid : IsLaidOut l t sh
  pub writing : IsOfTerms t p.writing
  pub some : is_some left ≡ is_source t.kind
  pub left_is : left ≡ p.left

is_set : (t : Terms) (sh : Shape) (l : Layout) (s : Stream) (p : PartSeen) (left : Option ℕ) → IsBegun t sh l p left → HasDone t false s p → IsSet t sh l s p left
is_set t sh l s p left b h = record {
  lawful = b.lawful;
  fits = b.fits;
  shape = b.shape;
  laid = b.laid;
  writing = b.writing;
  some = b.some;
  left_is = b.left_is;
  has_done = h;
}

pub comes_back : (t : Terms) (sh : Shape) (l : Layout) (p p' : PartSeen) (left : Option ℕ) (n : ℕ) (over : Bool) (text : List ℕ) (carries : Incoming → Type 0)
    (before after : List (Option BufferHeader)) → IsBegun t sh l p left → n ≡ frames_by left t (carried_from 0 before) → over ≡ over_by left t n (carried_from 0 before)
    → WasDone t sh n over p p' text carries before after → ((came : Incoming) → is_source t.kind ≡ true → carries came → length came.file ≡ n * sh.output_frame)
    → text ≡ writes_of (begun n p.writing) ((came_in t sh n before).input 0)
    → (k : ℕ) → ComesBack t (carried_from 0 before) p k n None (carried_from 0 after) p'
comes_back t sh l p p' left n over text carries before after b frames ends w reads texts k = λ s h.
    let is = is_set t sh l s p left b h in
    (text, whole_step t sh l s p p' left k n over text carries before after is frames ends w reads texts, has_gone t sh l s p p' left n over text carries before after is frames w reads texts)

pub comes_broken : (t : Terms) (sh : Shape) (l : Layout) (p p' : PartSeen) (left : Option ℕ) (n : ℕ) (fault : PartFault) (text : List ℕ)
    (before after : List (Option BufferHeader)) → IsBegun t sh l p left → n ≡ frames_by left t (carried_from 0 before) → IsOfKind t.kind fault → after ≡ before
    → WasBroken p p' text → text ≡ writes_of (begun n p.writing) ((came_in t sh n before).input 0)
    → (k : ℕ) → ComesBack t (carried_from 0 before) p k 0 (Some fault) (carried_from 0 after) p'
comes_broken t sh l p p' left n fault text before after b frames of_kind same w texts k = λ s h.
    let is = is_set t sh l s p left b h in
    (take w.front.0 text, broken_step t sh l s p p' left k n fault text before after is frames of_kind same w texts, has_failed t sh l s p p' left text is w)
