-- The world in which a play with late sources begins is one of its worlds.
use Rattle.std.proofs.Common.{◌≡◌, ℕ, zero, suc, ◌+◌, ◌<◌, ◌≤◌, Bool, true, false, ◌&&◌, if◌then◌else◌, nat_eq, List, [], ◌++◌, get_or, replicate, slice_get, slice_index_or, option_and_then, is_some, Option, Some, None, refl, sym, ◌∙◌, ap, subst, arith}
use Rattle.std.proofs.lemmas.Option.{slice_get_within}
use Rattle.omx_types.specs.declared.command.Command.{Command}
use Rattle.omx_types.specs.declared.command.Completion.TheVariants as completions
use Rattle.il_machine.specs.declared.answer.Progress.{Progress}
use Rattle.il_machine.specs.declared.port.PortKey.{PortKey}
use Rattle.il_machine.specs.Components.{no_progress}
use Rattle.il_machine.specs.Finishing.{end_note}
use Rattle.il_machine.specs.Headers.{find_header}
use Rattle.il_machine.specs.Queued.{notes_given}
use Rattle.il_machine.specs.World.{Component, Given, World, number_of}
use Rattle.machine_laws.proofs.Finding.{either}
use Rattle.play_model.specs.Progress.{sum_to}
use Rattle.play_model.specs.Changes.{port_at}
use Rattle.play_model.specs.Play.{Layout}
use Rattle.play_model.proofs.Handing.{begun_reached}
use Rattle.play_world_laws.specs.View.{link_view, worked_at}
use Rattle.play_world_laws.specs.Cast.{Cast, components_of, input_at, links_of, output_at, script_place}
use Rattle.play_world_laws.specs.Openings.{IsOpeningWorld, opening}
use Rattle.play_world_laws.specs.Standing.{standing}
use Rattle.play_world_laws.specs.Telling.{heard, heard_of, out_of, progress_by, unheard}
use Rattle.play_world_laws.specs.Wiring.{work_in}
use Rattle.play_world_laws.proofs.Picks.{ends_with, seen_with}
use Rattle.play_world_laws.specs.Changing.{at_links, told_of_port}
use Rattle.play_world_laws.specs.PlayWorlds.{HasHeard, IsActorAt, IsPlayWorld, PlayCast, commands_of_end, left_to_make, made_again, notes_of_end, port_number, port_commands, port_notes, settings_notes, settings_of_end}

unended : (inputs port : ℕ) → get_or (replicate inputs false) port false ≡ false
unended zero port = refl
unended (suc inputs) zero = refl
unended (suc inputs) (suc port) = unended inputs port

none_queued : {A : Type 0} (w : Layout) (P : Bool → ℕ → List A) (c n : ℕ) → ((output : Bool) (l : ℕ) → P output l ≡ []) → at_links w P c n ≡ []
none_queued w P c zero h = refl
none_queued {A} w P c (suc n) h = λ i. none_queued w P c n h i ++ at_one i
  where
    one : (b : Bool) (xs : List A) → xs ≡ [] → (if b then xs else []) ≡ []
    one true xs e = e
    one false xs e = refl

    at_one : (if w.is_late n then (if nat_eq ((w.network).giver n) c then P true n else []) ++ (if nat_eq ((w.network).taker n) c then P false n else []) else []) ≡ []
    at_one = one (w.is_late n) _ (λ i. one (nat_eq ((w.network).giver n) c) (P true n) (h true n) i ++ one (nat_eq ((w.network).taker n) c) (P false n) (h false n) i)

no_command : (x : Cast) (output : Bool) (l : ℕ) → commands_of_end x opening output l ≡ []
no_command x true l = refl
no_command x false l = refl

no_note : (x : Cast) (output : Bool) (l : ℕ) → notes_of_end x opening output l ≡ []
no_note x true l = refl
no_note x false l = refl

no_settings : (x : Cast) (output : Bool) (l : ℕ) → settings_of_end x opening output l ≡ []
no_settings x true l = refl
no_settings x false l = refl

sum_at_most : (n : ℕ) (f g h : ℕ → ℕ) → ((l : ℕ) → l < n → f l ≤ g l + h l) → sum_to n f ≤ sum_to n g + sum_to n h
sum_at_most zero f g h b = omega arith
sum_at_most (suc n) f g h b = let i = sum_at_most n f g h (λ l d. b l (omega arith)) in let z = b n (omega arith) in omega arith

few_left : (x : Cast) (l : ℕ) → left_to_make x opening l ≤ ((x.layout).network).count l + made_again x l
few_left x l = either ((x.layout).is_late l) (λ t. rw t (omega arith)) (λ t. rw t (omega arith))

nothing_told : (x : Cast) (recent : ℕ) (output : Bool) → is_some (told_of_port (port_at output (opening.change recent)) (port_number x output recent)) ≡ true → ⊥
nothing_told x recent true t = cc
nothing_told x recent false t = cc

heard_nothing : (x : Cast) (recent c : ℕ) (h : Progress) → h ≡ no_progress → HasHeard x recent opening c h
heard_nothing x recent c h e = record {
  state = ap (λ (y : Progress). y.state) e;
  eos = ap (λ (y : Progress). y.eos) e;
  error = ap (λ (y : Progress). y.error) e;
  settings = λ l O k. ap (λ (y : Progress). is_some y.settings) e;
  port = λ output b O k t. absurd (nothing_told x recent output t);
  past = λ output l b g t. (
    λ f. let z : None ≡ Some (completions.Disable (port_number x output l)) = sym (ap (λ (y : Progress). y.port) e) ∙ f in absurd cc,
    λ f. let z : None ≡ Some (completions.Enable (port_number x output l)) = sym (ap (λ (y : Progress). y.port) e) ∙ f in absurd cc,
  );
  nothing = λ n. (ap (λ (y : Progress). y.settings) e, ap (λ (y : Progress). y.port) e);
}

module _ (x : PlayCast) (recent : ℕ) (w : World) (O : IsOpeningWorld x w) where
  opening_actor : (c : ℕ) (a : Component) → c < components_of x.cast → slice_get w.components (script_place x.cast c) ≡ Some a → IsActorAt x recent opening w c a
  opening_actor c a l e =
      let S = O.components c a l e in
      let F = S.fresh_else in
      let none : notes_given (number_of a) w ≡ [] = ap (λ (g : List Given). notes_given (number_of a) (record w { given = g })) O.given in
      let in_ : a.client_out ≡ false = ap (λ (y : Component). y.client_out) F in
      let quiet : a.notes ≡ [] = ap (λ (y : Component). y.notes) F in
      let free : a.work ≡ None = ap (λ (y : Component). y.work) F in
      let commands : port_commands x.cast opening c ≡ [] = none_queued (x.cast).layout (commands_of_end x.cast opening) c (links_of x.cast) (no_command x.cast) in
      let settings : settings_notes x.cast opening c ≡ [] = none_queued (x.cast).layout (settings_of_end x.cast opening) c (links_of x.cast) (no_settings x.cast) in
      let notes : port_notes x.cast opening c ≡ [] = none_queued (x.cast).layout (notes_of_end x.cast opening) c (links_of x.cast) (no_note x.cast) in
      let ending : end_note (((x.cast).layout).is_sink c && false && true) ≡ [] = either (((x.cast).layout).is_sink c) (λ t. rw t refl) (λ t. rw t refl) in
      let stood : a ≡ standing 0 4 a = subst (λ (y : Component). y ≡ standing 0 4 y) (sym F) refl in
      record {
        number = S.number;
        stands = stood ∙ ap (λ (cs : List Command). record (standing 0 4 a) { commands = cs }) (sym commands);
        set_for = S.set_for;
        roomy = S.roomy;
        source = S.source;
        sink = S.sink;
        late = S.late;
        late_format = S.late_format;
        file = S.file;
        notes =
            let here : unheard w a ≡ [] = λ i. out_of (in_ i) (none i) ++ quiet i in
            here ∙ sym (λ i. settings i ++ (notes i ++ ending i));
        heard_so = heard_nothing x.cast recent c (heard w a) (λ i. progress_by (heard_of (in_ i) (none i)) no_progress);
        out = λ t. let z : false ≡ true = sym in_ ∙ t in absurd cc;
        part = record {
          whole = ap (λ (y : Component). y.part.failed) F;
          ended = λ B. ap (λ (y : Component). y.part.ended) F;
          inputs = λ B k I. ap (λ (y : Component). slice_index_or y.part.ended_inputs ((x.cast).input_port k) false) F ∙ unended _ ((x.cast).input_port k);
        };
        done = S.stream;
        work = λ work f. let z : None ≡ Some work = sym free ∙ f in absurd cc;
        running = λ h k. absurd (omega arith);
        over = λ h k. absurd (omega arith);
        unsteady = λ output k b g h n. refl;
      }

  -- no work is out
  no_work : (key : PortKey) → work_in w.components key ≡ []
  no_work key = by_place (slice_get w.components key.component) refl
    where
      by_place : (o : Option Component) → slice_get w.components key.component ≡ o → worked_at (option_and_then (λ y. y.work) o) key.port ≡ []
      by_place None e = refl
      by_place (Some a) e =
          let s = slice_get_within w.components key.component a e in
          let m = O.many in
          let k = (O.cast_is).each key.component (omega arith) in
          let S = O.components k.0 a k.1 (subst (λ (j : ℕ). slice_get w.components j ≡ Some a) (sym k.2) e) in
          ap (λ (y : Component). worked_at y.work key.port) S.fresh_else

  pub play_opens : IsPlayWorld x recent opening w
  play_opens =
      let layout = (x.cast).layout in
      let fewer = sum_at_most (links_of x.cast) (left_to_make x.cast opening) (layout.network).count (made_again x.cast) (λ l b. few_left x.cast l) in
      let none = O.made in
      record {
        cast_is = O.cast_is;
        formats = O.formats;
        reached = begun_reached layout opening (record { layout = (O.cast_is).layout; phase = refl; stage = λ c. refl; told = λ c. refl; opening = record { done = λ c. refl; going = λ c. refl; empty = λ l. refl; taken = λ l. refl; open_ = λ l. refl }; none = λ l. refl; unchanged = λ l. refl });
        sound = O.sound;
        many = O.many;
        actors = opening_actor;
        half = λ l b h H. let z = H.0 in absurd (omega arith);
        wired = O.wired;
        ends = O.ends;
        viewed = λ l h.
            let works = seen_with x.cast (work_in w.components) opening l w.headers [] [] (no_work (output_at x.cast l)) (no_work (input_at x.cast l)) in
            sym (works ∙ ap (link_view (ends_with x.cast opening l [] [])) O.headers);
        headers = λ n r f. let z : None ≡ Some r = sym (ap (find_header n) O.headers) ∙ f in absurd cc;
        tunnelled = λ n r output l f b h t. let z : None ≡ Some r = sym (ap (find_header n) O.headers) ∙ f in absurd cc;
        units = O.units;
        numbers = omega arith;
      }
