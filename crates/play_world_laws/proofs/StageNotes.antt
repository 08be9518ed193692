-- A note is taken, which is nothing for the play; its client object is given back once the completion of the StateSet or the end of the
-- stream was heard.
use Rattle.std.proofs.Common.{◌≡◌, ◌⊎◌, inl, inr, ℕ, zero, suc, ◌<◌, Bool, true, false, nat_eq, if◌then◌else◌, List, [], ◌∷◌, ◌++◌, slice_get, Option, Some, None, Result, refl, sym, ◌∙◌, ap, subst}
use Rattle.omx_types.specs.declared.command.Completion.TheVariants as completions
use Rattle.omx_types.specs.declared.command.Event.{Event}
use Rattle.omx_types.specs.declared.command.Event.TheVariants.{BufferFlag, CmdComplete, PortSettingsChanged}
use Rattle.omx_types.specs.declared.command.Note.{Note}
use Rattle.omx_types.specs.declared.command.Note.TheVariants as notes
use Rattle.omx_types.specs.declared.error.OmxError.{OmxError}
use Rattle.omx_types.specs.declared.handle.Handle.{Handle}
use Rattle.il_machine.specs.declared.answer.Progress.{Progress}
use Rattle.il_machine.specs.Answers.{plain}
use Rattle.il_machine.specs.Finishing.{end_note}
use Rattle.il_machine.specs.Notes.{TakeFrom, TakeNote, Took, first_taken, with_given}
use Rattle.il_machine.specs.Queued.{notes_given}
use Rattle.il_machine.specs.Room.{is_event}
use Rattle.il_machine.specs.Sound.{Sound}
use Rattle.il_machine.specs.World.{Component, World, number_of}
use Rattle.machine_laws.proofs.Notices.{sound_given}
use Rattle.play_model.specs.Changes.{port_at}
use Rattle.play_model.specs.Play.{Layout, Play}
use Rattle.play_world_laws.specs.Cast.{components_of, links_of, script_place}
use Rattle.play_world_laws.specs.Standing.{target}
use Rattle.play_world_laws.specs.Telling.{last_note, out_of, state_note}
use Rattle.play_world_laws.specs.Worlds.{Names, ends_untold}
use Rattle.play_world_laws.proofs.Lists.{resolved}
use Rattle.play_world_laws.proofs.Notes.{given_else, given_here, heard_same, last_push, unheard_same}
use Rattle.play_world_laws.specs.Changing.{at_ends, at_links, notes_of_port}
use Rattle.play_world_laws.specs.PlayWorlds.{HasHeard, IsActorAt, IsPlayWorld, PlayCast, announced_note, notes_of_end, port_notes, port_number, settings_notes, settings_of_end}
use Rattle.play_world_laws.specs.Leading.{PlayLeadsTo}
use Rattle.play_world_laws.proofs.ChangeEnds.{actor_there}
use Rattle.play_world_laws.proofs.Kept.{IsGoingOn, actor_goes_on, kept}

-- ---- each note is an event

abbrev AreEvents : List Note → Type 0
AreEvents ns = (i : ℕ) (n : Note) → slice_get ns i ≡ Some n → is_event n ≡ true

no_events : AreEvents []
no_events i n e = absurd cc

one_event : (event : Event) → AreEvents (notes.Told event ∷ [])
one_event event zero n e = let s : notes.Told event ≡ n = cc in subst (λ (y : Note). is_event y ≡ true) s refl
one_event event (suc i) n e = absurd cc

both_events : (xs ys : List Note) → AreEvents xs → AreEvents ys → (i : ℕ) (n : Note) → slice_get (xs ++ ys) i ≡ Some n → is_event n ≡ true
both_events [] ys a b i n e = b i n e
both_events (x ∷ xs) ys a b zero n e = a zero n e
both_events (x ∷ xs) ys a b (suc i) n e = both_events xs ys (λ j m f. a (suc j) m f) b i n e

when_events : (b : Bool) (xs : List Note) → AreEvents xs → AreEvents (if b then xs else [])
when_events true xs a = a
when_events false xs a = no_events

links_events : (w : Layout) (P : Bool → ℕ → List Note) (c n : ℕ) → ((s : Bool) (l : ℕ) → AreEvents (P s l)) → AreEvents (at_links w P c n)
links_events w P c zero h = no_events
links_events w P c (suc n) h = both_events (at_links w P c n) (at_ends w P c n) (links_events w P c n h)
    (when_events (w.is_late n) _ (both_events _ _ (when_events (nat_eq ((w.network).giver n) c) (P true n) (h true n)) (when_events (nat_eq ((w.network).taker n) c) (P false n) (h false n))))

state_events : (phase stage : ℕ) → AreEvents (state_note phase stage)
state_events phase zero = no_events
state_events phase (suc zero) = no_events
state_events phase (suc (suc zero)) = no_events
state_events phase (suc (suc (suc zero))) = one_event (CmdComplete (completions.State (target phase)))
state_events phase (suc (suc (suc (suc n)))) = no_events

port_events : (n port : ℕ) → AreEvents (notes_of_port n port)
port_events zero port = no_events
port_events (suc zero) port = no_events
port_events (suc (suc zero)) port = no_events
port_events (suc (suc (suc zero))) port = one_event (CmdComplete (completions.Disable port))
port_events (suc (suc (suc (suc zero)))) port = no_events
port_events (suc (suc (suc (suc (suc zero))))) port = no_events
port_events (suc (suc (suc (suc (suc (suc zero)))))) port = no_events
port_events (suc (suc (suc (suc (suc (suc (suc zero))))))) port = one_event (CmdComplete (completions.Enable port))
port_events (suc (suc (suc (suc (suc (suc (suc (suc n)))))))) port = no_events

announced_events : (n port : ℕ) → AreEvents (announced_note n port)
announced_events zero port = no_events
announced_events (suc zero) port = one_event (PortSettingsChanged port)
announced_events (suc (suc n)) port = no_events

end_events : (b : Bool) → AreEvents (end_note b)
end_events true = one_event (BufferFlag 0 1)
end_events false = no_events

settings_events : (x : PlayCast) (p : Play) (s : Bool) (l : ℕ) → AreEvents (settings_of_end x.cast p s l)
settings_events x p true l = announced_events (p.change l).step ((x.cast).output_port l)
settings_events x p false l = no_events

all_events : (x : PlayCast) (p : Play) (c : ℕ) → AreEvents (state_note p.phase (p.stage c) ++ (settings_notes x.cast p c ++ (port_notes x.cast p c ++ end_note (ends_untold x.cast p c))))
all_events x p c = both_events (state_note p.phase (p.stage c)) _ (state_events p.phase (p.stage c))
    (both_events (settings_notes x.cast p c) _ (links_events (x.cast).layout (settings_of_end x.cast p) c (links_of x.cast) (settings_events x p))
    (both_events (port_notes x.cast p c) _ (links_events (x.cast).layout (notes_of_end x.cast p) c (links_of x.cast) (λ s l. port_events (port_at s (p.change l)) (port_number x.cast s l))) (end_events (ends_untold x.cast p c))))

-- ---- a note is taken

module _ (x : PlayCast) (recent : ℕ) (p : Play) (w : World) (W : IsPlayWorld x recent p w) (c : ℕ) (l : c < components_of x.cast) (a : Component) (e : slice_get w.components (script_place x.cast c) ≡ Some a) (A : IsActorAt x recent p w c a) where
  module _ (note : Note) (o : a.client_out ≡ false) (f : slice_get a.notes 0 ≡ Some note) where
    abbrev v : World
    v = with_given (script_place x.cast c) a note w

    take_going : IsGoingOn x recent p p.stage p.told w v c a (first_taken a)
    take_going = record {
      handle = refl;
      settings = refl;
      file = refl;
      part = refl;
      keeps_told = λ h. h;
      stands = ap (λ (z : Component). record (record z { notes = (first_taken a).notes }) { client_out = true }) A.stands;
      notes = unheard_same w (script_place x.cast c) a note A.number o f ∙ A.notes;
      heard_so = subst (λ (h : Progress). HasHeard x.cast recent p c h) (sym (heard_same w (script_place x.cast c) a note A.number o f)) A.heard_so;
      out = λ t. (note, ap last_note (given_here w (script_place x.cast c) a note A.number o f) ∙ last_push (notes_given (number_of a) w) note);
      work = λ work g.
          let K = A.work work g in
          record {
            phase = K.phase;
            stage = K.stage;
            going = K.going;
            gain = K.gain;
            weights = K.weights;
            which = elim K.which [
              | inl h ↦ inl (h.0, record { outputs = (h.1).outputs; inputs = (h.1).inputs }, h.2)
              | inr N ↦ inr (record { link = N.link; output = N.output; late = N.late; unannounced = N.unannounced; none = N.none; announces = N.announces })
            ];
          };
      before = λ B. B;
      ran = λ h. h;
    }

    pub takes : Sound v → IsPlayWorld x recent p v
    takes S = kept x recent p p.stage p.told w v c a (first_taken a) W (record {
      inside = l;
      there = e;
      components = refl;
      headers = refl;
      made = refl;
      units = refl;
      streams = refl;
      given = given_else w (script_place x.cast c) a note A.number o f;
      handle = refl;
      settings = refl;
      ports = refl;
      works = λ port. refl;
      stage_else = λ k n. refl;
      told_else = λ k n. refl;
    }) W.reached S (actor_goes_on x recent p p.stage p.told w v c a (first_taken a) refl take_going A)

  pub an_event : (n : Note) → a.client_out ≡ false → slice_get a.notes 0 ≡ Some n → is_event n ≡ true
  an_event n o f =
      let all = sym (ap (λ (b : Bool). out_of b (notes_given (number_of a) w) ++ a.notes) o) ∙ A.notes in
      all_events x p c 0 n (subst (λ (g : List Note). slice_get g 0 ≡ Some n) all f)

  taken_from : (busy : Bool) (oldest : Option Note) (result : Result Took OmxError) (v : World) → a.client_out ≡ busy → slice_get a.notes 0 ≡ oldest → TakeFrom w (script_place x.cast c) a busy oldest result v → (v ≡ w) ⊎ PlayLeadsTo x recent p v
  taken_from true oldest result v o f s = inl s.1
  taken_from false None result v o f s = inl s.1
  taken_from false (Some (notes.Told event)) result v o f s =
      let S = sound_given w (script_place x.cast c) a event W.sound e f in
      inr (record { effect = with_given (script_place x.cast c) a (notes.Told event) w; play = takes (notes.Told event) o f S; closes = s.1 })
  taken_from false (Some (notes.EmptyDone n)) result v o f s = let b : false ≡ true = an_event (notes.EmptyDone n) o f in absurd cc
  taken_from false (Some (notes.FillDone n)) result v o f s = let b : false ≡ true = an_event (notes.FillDone n) o f in absurd cc

pub take_leads : (x : PlayCast) (recent : ℕ) (p : Play) (w : World) (c : ℕ) (h : Handle) (result : Result Took OmxError) (v : World) → IsPlayWorld x recent p w → c < components_of x.cast → Names x.cast w c h → TakeNote w h result v → (v ≡ w) ⊎ PlayLeadsTo x recent p v
take_leads x recent p w c h result v W l N s =
    let a = actor_there x recent p w c W l in
    taken_from x recent p w W c l a.0 a.1 a.2 (a.0).client_out (slice_get (a.0).notes 0) result v refl refl
    (resolved plain w h result v (λ i d. TakeFrom w i d d.client_out (slice_get d.notes 0) result v) (script_place x.cast c) a.0 N a.1 s)
