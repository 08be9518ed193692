-- What a step makes of each header of a work, and where it lands: in a play it goes on, or is worked on again.
use Rattle.std.proofs.Common.{◌≡◌, ℕ, ◌-◌, ◌*◌, ◌/◌, ◌<◌, Bool, true, false, ◌&&◌, ◌||◌, nat_eq, nat_lt, nat_le, if◌then◌else◌, List, drop, length, map, Some, None, sym, ◌∙◌, ap, arith}
use Rattle.std.proofs.lemmas.List.{length-drop}
use Rattle.std.proofs.Math.Nat.{mul-div_cancel, mul-sub, mul_comm}
use Rattle.omx_types.specs.Formats.{frame_bytes_of}
use Rattle.part_api.specs.Streams.{Incoming}
use Rattle.part_api.specs.Terms.{Terms}
use Rattle.il_machine.specs.World.{Component, HeaderRecord, Picked, Stream, Work, World, number_of, stream_of}
use Rattle.il_machine.specs.Headers.{unloaded}
use Rattle.il_machine.specs.Components.{has_eos}
use Rattle.il_machine.specs.Buffers.{held, load_in}
use Rattle.il_machine.specs.Claims.{CarriedHeader, carried, terms_in}
use Rattle.il_machine.specs.Stepping.{WorkDone, bytes_at, format_at, is_in, is_drained, is_last, inputs_ended, is_over, incoming, made_at, emptied, filled, eos_flags, stepped, step_frames, Gives}
use Rattle.il_machine.specs.Finishing.{ends_by, is_an_input, is_finished, is_returning, mark_on, mark_after, load_after}
use Rattle.play_model.specs.Network.{Filled}
use Rattle.play_model.specs.Play.{Play}
use Rattle.play_world_laws.specs.View.{filled_by}
use Rattle.play_world_laws.specs.Cast.{Cast}
use Rattle.play_world_laws.proofs.Wanted.{link_below}
use Rattle.play_world_laws.proofs.Picks.{IsPick}
use Rattle.play_world_laws.proofs.Worked.{IsHeaderOf, seen_as}
use Rattle.play_step_laws.proofs.Worked.{unit_at}
use Rattle.play_world_laws.proofs.Numbers.{none_left}
use Rattle.play_step_laws.proofs.Numbers.{side_is, frames_is}
use Rattle.play_step_laws.proofs.Poised.{IsPoised}
use Rattle.play_world_laws.specs.Worlds.{IsWork}

sub_mul : (m k unit : ℕ) → (m - k) * unit ≡ m * unit - k * unit
sub_mul m k unit =
    let a = mul_comm unit m in
    let b = mul_comm unit k in
    mul_comm (m - k) unit ∙ (mul-sub unit m k ∙ (λ i. a i - b i))

-- the frames that are left
left_frames : (m k unit : ℕ) → 0 < unit → (m * unit - k * unit) / unit ≡ m - k
left_frames m k unit u = ap (λ (q : ℕ). q / unit) (sym (sub_mul m k unit)) ∙ mul-div_cancel (m - k) u

-- ---- the step of a work

module _ (x : Cast) (p : Play) (w : World) (c : ℕ) (a : Component) (U : IsPoised x p w c a) (work : Work) (f : a.work ≡ Some work) (J : IsWork x p c a work)
    (s : Stream) (g : stream_of (number_of a) w ≡ Some s) (piece : List ℕ) (G : Gives (terms_in a work) s (step_frames (terms_in a work) s (carried w.headers work.headers)) piece) (m : ℕ) (text : List ℕ) where
  abbrev t : Terms
  t = terms_in a work

  abbrev xs : List Picked
  xs = work.headers

  abbrev zs : List CarriedHeader
  zs = carried w.headers xs

  abbrev n : ℕ
  n = step_frames t s zs

  abbrev ends : Bool
  ends = is_over t s n (inputs_ended t n zs)

  abbrev came : Incoming
  came = incoming t n zs piece

  abbrev step : CarriedHeader → CarriedHeader
  step z = stepped t n came ends z

  abbrev pub done : WorkDone
  done = record { component = m; frames = n; fault = None; headers = map step zs; took = text }

  -- ---- an input's header

  module _ (j l : ℕ) (y : Picked) (r : HeaderRecord) (P : IsPick x p c xs j y l true) (H : IsHeaderOf x w c (number_of a) y l r) where
    abbrev h : Filled
    h = filled_by (x.unit l) r.load

    units : 0 < x.unit l
    units = (U.cast).units l (link_below true (x.layout).network c l P.of_link)

    side : is_in t (seen_as y r) ≡ true
    side = side_is x p w c a U work f J s g j l y true r P

    unit : frame_bytes_of (format_at t y.port) ≡ x.unit l
    unit = unit_at x p w c a U work f J j l y true P

    pub step_in : step (seen_as y r) ≡ record { port = y.port; header = emptied (bytes_at t y.port n) (held r) }
    step_in = ap (λ (q : Bool). record { port = y.port; header = if q then emptied (bytes_at t y.port n) (held r) else filled (made_at t came y.port) (eos_flags ends) (held r) }) side

    left : length (drop (bytes_at t y.port n) r.load.content) / x.unit l ≡ h.frames - n
    left =
        let long = length-drop (bytes_at t y.port n) r.load.content in
        let bytes : bytes_at t y.port n ≡ n * x.unit l = ap (λ (u : ℕ). n * u) unit in
        let whole = (H.whole).frames in
        let v : length (drop (bytes_at t y.port n) r.load.content) ≡ h.frames * x.unit l - n * x.unit l = omega arith in
        ap (λ (u : ℕ). u / x.unit l) v ∙ left_frames h.frames n (x.unit l) units

    left_at : length (drop (bytes_at t y.port n) r.load.content) / frame_bytes_of (format_at t y.port) ≡ h.frames - n
    left_at = ap (λ (u : ℕ). length (drop (bytes_at t y.port n) r.load.content) / u) unit ∙ left

    -- it is spent where it has no more frames than the step
    pub spent_is : is_drained t 0 (step (seen_as y r)) ≡ nat_le h.frames n
    spent_is =
        ap (is_drained t 0) step_in
        ∙ ((λ i. side i && nat_eq (left_at i - 0) 0) ∙ (let z : h.frames - n - 0 ≡ h.frames - n = omega arith in ap (λ (u : ℕ). nat_eq u 0) z ∙ none_left h.frames n))

    pub last_after_in : is_last t 0 (step (seen_as y r)) ≡ is_last t n (seen_as y r)
    last_after_in =
        let frames = frames_is x p w c a U work f J s g j l y true r P in
        let flags : has_eos (step (seen_as y r)).header.flags ≡ has_eos r.load.flags = ap (λ (z : CarriedHeader). has_eos z.header.flags) step_in in
        let was : is_last t n (seen_as y r) ≡ (nat_le h.frames n && has_eos r.load.flags) = (λ i. (side i && nat_eq (frames i - n) 0) && has_eos r.load.flags) ∙ ap (λ (q : Bool). q && has_eos r.load.flags) (none_left h.frames n) in
        (λ i. spent_is i && flags i) ∙ sym was

    pub finished_in : is_finished a s done (step (seen_as y r)) ≡ nat_le h.frames n
    finished_in =
        let inside : is_an_input a (step (seen_as y r)) ≡ true = side in
        ap (λ (q : Bool). if q then is_drained t 0 (step (seen_as y r)) else (nat_lt 0 n || ends_by a s done)) inside ∙ spent_is

    -- what it carries then
    pub load_spent : is_returning a (step (seen_as y r)) ≡ false → nat_le h.frames n ≡ true → load_after a s done (step (seen_as y r)) ≡ unloaded (load_in (step (seen_as y r)).header)
    load_spent u q =
        let z : CarriedHeader = step (seen_as y r) in
        let inside : is_an_input a z ≡ true = side in
        let fin = finished_in ∙ q in
        λ i. if (u i || (if inside i then fin i else false)) then unloaded (load_in z.header) else if is_finished a s done z then record (load_in z.header) { mark = mark_after a z.header.mark (mark_on a s done) } else load_in z.header

    pub load_kept : is_returning a (step (seen_as y r)) ≡ false → nat_le h.frames n ≡ false → load_after a s done (step (seen_as y r)) ≡ load_in (emptied (bytes_at t y.port n) (held r))
    load_kept u q =
        let z : CarriedHeader = step (seen_as y r) in
        let inside : is_an_input a z ≡ true = side in
        let fin = finished_in ∙ q in
        (λ i. if (u i || (if inside i then fin i else false)) then unloaded (load_in z.header) else if fin i then record (load_in z.header) { mark = mark_after a z.header.mark (mark_on a s done) } else load_in z.header)
        ∙ ap (λ (k : CarriedHeader). load_in k.header) step_in

    pub filled_kept : filled_by (x.unit l) (load_in (emptied (bytes_at t y.port n) (held r))) ≡ record h { frames = h.frames - n }
    filled_kept = λ i. record { frames = left i; last = has_eos r.load.flags }

    pub whole_kept : length (drop (bytes_at t y.port n) r.load.content) / x.unit l * x.unit l ≡ length (drop (bytes_at t y.port n) r.load.content)
    whole_kept =
        let long = length-drop (bytes_at t y.port n) r.load.content in
        let bytes : bytes_at t y.port n ≡ n * x.unit l = ap (λ (u : ℕ). n * u) unit in
        let whole = (H.whole).frames in
        let v : length (drop (bytes_at t y.port n) r.load.content) ≡ h.frames * x.unit l - n * x.unit l = omega arith in
        ap (λ (u : ℕ). u * x.unit l) left ∙ (sub_mul h.frames n (x.unit l) ∙ sym v)
