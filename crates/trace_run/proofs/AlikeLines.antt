-- A line that is answered in two moments that differ by slots alone is answered alike, and leads to two such moments.
use Rattle.std.proofs.Common.{◌≡◌, ◌≢◌, ℕ, Bool, true, false, List, [], ◌∷◌, replicate, Option, Some, None, option_map, option_and_then, refl, sym, ◌∙◌, ap, subst}
use Rattle.std.specs.Prelude.{MatchOption, IsSome, Result, Ok, Err}
use Rattle.omx_types.specs.declared.handle.Handle.{Handle}
use Rattle.omx_types.specs.declared.error.OmxError.{OmxError}
use Rattle.omx_types.specs.declared.error.CallError.{CallError}
use Rattle.omx_types.specs.declared.error.CallError.TheVariants.{OutOfMemory}
use Rattle.il_machine.specs.declared.answer.Progress.{Progress}
use Rattle.il_machine.specs.Acts.{Act, Reply}
use Rattle.il_machine.specs.Acts as acts
use Rattle.il_machine.specs.Answers.{component_named}
use Rattle.il_machine.specs.Buffers.{Held}
use Rattle.il_machine.specs.Components.{no_progress}
use Rattle.il_machine.specs.Notes.{EndNote, Took, TookBusy, TookNone, TookNote}
use Rattle.il_machine.specs.Run.{Meets, Run, Step}
use Rattle.il_machine.specs.Stepping.{WorkDone}
use Rattle.il_machine.specs.World.{Component, Stream, Work, World, stream_of}
use Rattle.act_text.specs.declared.act.TextAct.{TextAct}
use Rattle.act_text.specs.declared.act.TextAct.TheVariants as lines
use Rattle.act_text.specs.declared.name.PortName.{PortName}
use Rattle.act_text.specs.declared.reply.TextReply.TheVariants as texts
use Rattle.header_core.specs.BufferHeader.{with_content}
use Rattle.script_lang.specs.declared.form.TraceForm.{TraceForm}
use Rattle.script_lang.specs.declared.form.TraceForm.TheVariants as forms
use Rattle.slot_laws.specs.Seating.{MakesNone, Seating, mapped, moved, moved_act, moved_component, moved_done, moved_handle, moved_held, moved_reply, moved_took}
use Rattle.slot_laws.proofs.Alike.{gets_alike, goes_alike, last_number}
use Rattle.slot_laws.proofs.Done.{done_alike}
use Rattle.slot_laws.proofs.Growth.{AreTold, told_at}
use Rattle.slot_laws.proofs.Naming.{named_moved}
use Rattle.trace_run.specs.Asking.{asked}
use Rattle.trace_run.specs.Lines.{ActLine, Entry, EtbLine, FinishLine, Finishes, InHand, IsAct, IsNoAct, Line, Takes, is_too_long, line_flags, taking, work_out}
use Rattle.trace_run.specs.Naming.{Moment, Names, after_handing, after_taking, handle_of, in_hand, no_handle, with_component, with_header}
use Rattle.trace_run.specs.Replying.{LineReply, Plain, printed}
use Rattle.trace_run.proofs.MovedNames.{asked_moved, handing_moved, handle_moved, in_hand_moved, moved_moment, moved_names, printed_moved, taking_moved, with_component_moved, with_header_moved}

-- the second moment is the first one, moved, and the replies are one
pub record GoAlike (f : Seating) (reply : LineReply) (next : Moment) (also : LineReply) (then : Moment) : Type 0 where
  pub same : also ≡ reply
  pub goes : then ≡ moved_moment f next

-- one step, in a run of one
pub only : (w v : World) (a : Act) (r : Reply) → Run w ((a, r) ∷ []) v → Meets w a × Step w a r v
only w v a r (mid, M, step, e) = (M, subst (λ (x : World). Step w a r x) (sym e) step)

allocated_same : (x y : Result Held CallError) → acts.Allocated x ≡ acts.Allocated y → x ≡ y
allocated_same x y e = cc

used_same : (x y : Result Held OmxError) → acts.Used x ≡ acts.Used y → x ≡ y
used_same x y e = cc

module _ (f : Seating) (nowhere : moved_handle f no_handle ≡ no_handle) (at : Moment) (told : AreTold (at.world).streams) where
  -- ---- a line of one act

  module _ (next then : Moment) (reply also : LineReply) (es ds : List Entry) (run : Run at.world es next.world) (other : Run (moved f at.world) ds then.world) where
    -- no act is made
    none_alike : (said : LineReply) → IsNoAct at.names said es reply next.names → IsNoAct (moved_names f at.names) said ds also then.names → GoAlike f reply next also then
    none_alike said a b =
        let w : next.world ≡ at.world = subst (λ (x : List Entry). Run at.world x next.world) a.none run in
        let u : then.world ≡ moved f at.world = subst (λ (x : List Entry). Run (moved f at.world) x then.world) b.none other in
        let world = u ∙ sym (ap (moved f) w) in
        let names = b.same ∙ sym (ap (moved_names f) a.same) in
        record { same = b.says ∙ sym a.says; goes = λ j. record { world = world j; names = names j } }

    -- what one act is answered, and where it leads
    act_alike : (a : Act) (r : Reply) (b : Act) (s : Reply) → MakesNone a → b ≡ moved_act f a → IsAct at.names a r es reply → IsAct (moved_names f at.names) b s ds also
        → (s ≡ moved_reply f r) × (then.world ≡ moved f next.world) × (also ≡ reply)
    act_alike a r b s makes is A B =
        let one = only at.world next.world a r (subst (λ (x : List Entry). Run at.world x next.world) A.one run) in
        let two = only (moved f at.world) then.world b s (subst (λ (x : List Entry). Run (moved f at.world) x then.world) B.one other) in
        let both = goes_alike f at.world a r next.world b s then.world makes is one.1 two.1 in
        let says : Some also ≡ Some reply = sym B.says ∙ (ap (printed (moved_names f at.names)) both.0 ∙ (printed_moved f at.names r ∙ A.says)) in
        (both.0, both.1, cc)

    finish_alike : (a : Act) (r : Reply) (b : Act) (s : Reply) (names : Names) → MakesNone a → b ≡ moved_act f a → IsAct at.names a r es reply → IsAct (moved_names f at.names) b s ds also
        → next.names ≡ names → (s ≡ moved_reply f r → then.names ≡ moved_names f names) → GoAlike f reply next also then
    finish_alike a r b s names makes is A B e d =
        let g = act_alike a r b s makes is A B in
        let world = g.1 in
        let all = d g.0 ∙ sym (ap (moved_names f) e) in
        record { same = g.2; goes = λ j. record { world = world j; names = all j } }

    -- a line that changes no name
    plain_alike : (a : Act) (r : Reply) (b : Act) (s : Reply) → MakesNone a → b ≡ moved_act f a → IsAct at.names a r es reply → IsAct (moved_names f at.names) b s ds also
        → next.names ≡ at.names → then.names ≡ moved_names f at.names → GoAlike f reply next also then
    plain_alike a r b s makes is A B e d = finish_alike a r b s at.names makes is A B e (λ same. d)

    -- ---- a note is taken

    abbrev Ends : Handle → Result Took OmxError → World → World → Type 0
    Ends h (Ok (TookNote taken)) mid v = EndNote mid h v
    Ends h other mid v = v ≡ mid

    take_parts : (h : Handle) (r : Result Took OmxError) (progress : Progress) (w v : World) → Run w (taking h r progress) v → (mid : World) × Step w (acts.TakeNote h) (acts.Took r) mid × Ends h r mid v
    take_parts h (Ok (TookNote taken)) progress w v (mid, M, step, rest) = (mid, step, (only mid v (acts.EndNote h progress) acts.Ended rest).1)
    take_parts h (Ok TookNone) progress w v (mid, M, step, e) = (mid, step, e)
    take_parts h (Ok TookBusy) progress w v (mid, M, step, e) = (mid, step, e)
    take_parts h (Err error) progress w v (mid, M, step, e) = (mid, step, e)

    ends_alike : (h : Handle) (r : Result Took OmxError) (mid v u : World) → Ends h r mid v → Ends (moved_handle f h) (mapped (moved_took f) r) (moved f mid) u → u ≡ moved f v
    ends_alike h (Ok (TookNote taken)) mid v u a b =
        (goes_alike f mid (acts.EndNote h no_progress) acts.Ended v (acts.EndNote (moved_handle f h) no_progress) acts.Ended u tt refl a b).1
    ends_alike h (Ok TookNone) mid v u a b = b ∙ sym (ap (moved f) a)
    ends_alike h (Ok TookBusy) mid v u a b = b ∙ sym (ap (moved f) a)
    ends_alike h (Err error) mid v u a b = b ∙ sym (ap (moved f) a)

    take_alike : (h k : Handle) (r s : Result Took OmxError) (p q : Progress) → k ≡ moved_handle f h → Takes at.names h r p es reply → Takes (moved_names f at.names) k s q ds also
        → next.names ≡ after_taking r at.names → then.names ≡ after_taking s (moved_names f at.names) → GoAlike f reply next also then
    take_alike h k r s p q is A B e d =
        let one = take_parts h r p at.world next.world (subst (λ (x : List Entry). Run at.world x next.world) A.both run) in
        let two = take_parts k s q (moved f at.world) then.world (subst (λ (x : List Entry). Run (moved f at.world) x then.world) B.both other) in
        let both = goes_alike f at.world (acts.TakeNote h) (acts.Took r) one.0 (acts.TakeNote k) (acts.Took s) two.0 tt (ap acts.TakeNote is) one.1 two.1 in
        let took : s ≡ mapped (moved_took f) r = (let same : acts.Took s ≡ acts.Took (mapped (moved_took f) r) = both.0 in cc) in
        let ends : Ends (moved_handle f h) (mapped (moved_took f) r) (moved f one.0) then.world =
        subst (λ (x : World). Ends (moved_handle f h) (mapped (moved_took f) r) x then.world) both.1
        (subst (λ (x : Result Took OmxError). Ends (moved_handle f h) x two.0 then.world) took
        (subst (λ (x : Handle). Ends x s two.0 then.world) is two.2)) in
        let world = ends_alike h r one.0 next.world then.world one.2 ends in
        let names = d ∙ ((λ j. after_taking (took j) (moved_names f at.names)) ∙ (taking_moved f r at.names ∙ sym (ap (moved_names f) e))) in
        let says : Some also ≡ Some reply = sym B.says ∙ (ap (λ (x : Result Took OmxError). printed (moved_names f at.names) (acts.Took x)) took ∙ (printed_moved f at.names (acts.Took r) ∙ A.says)) in
        record { same = cc; goes = λ j. record { world = world j; names = names j } }

    -- ---- a work comes back

    done_known : (number : ℕ) (s : Stream) → stream_of number at.world ≡ Some s → IsSome s.known
    done_known number s e = told_at number (at.world).streams s told e

    back_alike : (component : List ℕ) (done back : WorkDone) → Finishes at.names component done es reply → Finishes (moved_names f at.names) component back ds also
        → next.names ≡ at.names → then.names ≡ moved_names f at.names → GoAlike f reply next also then
    back_alike component done back A B e d =
        let one = only at.world next.world (acts.Finish done) acts.Finished (subst (λ (x : List Entry). Run at.world x next.world) A.one run) in
        let two = only (moved f at.world) then.world (acts.Finish back) acts.Finished (subst (λ (x : List Entry). Run (moved f at.world) x then.world) B.one other) in
        let number : back.component ≡ done.component = B.component_is ∙ (ap (λ (h : Handle). h.generation) (handle_moved f nowhere at.names component) ∙ sym A.component_is) in
        let same : back ≡ moved_done f done = done_alike f at.world done back number A.whole B.whole (done_known done.component) one.0 two.0 in
        let world = (goes_alike f at.world (acts.Finish done) acts.Finished next.world (acts.Finish back) acts.Finished then.world tt (ap acts.Finish same) one.1 two.1).1 in
        let names = d ∙ sym (ap (moved_names f) e) in
        record {
          same = B.says ∙ (ap (λ (x : WorkDone). Plain (texts.Finished x.frames)) same ∙ sym A.says);
          goes = λ j. record { world = world j; names = names j };
        }

    out_alike : (component : List ℕ) (o : Option Work)
        → MatchOption o (IsNoAct at.names (Plain texts.NotOut) es reply next.names) (λ work. (done : WorkDone) × Finishes at.names component done es reply × (next.names ≡ at.names))
        → MatchOption o (IsNoAct (moved_names f at.names) (Plain texts.NotOut) ds also then.names) (λ work. (done : WorkDone) × Finishes (moved_names f at.names) component done ds also × (then.names ≡ moved_names f at.names))
        → GoAlike f reply next also then
    out_alike component None a b = none_alike (Plain texts.NotOut) a b
    out_alike component (Some work) a b = back_alike component a.0 b.0 a.1 b.1 a.2 b.2

    work_moved : (component : List ℕ) → work_out (moved_moment f at) component ≡ work_out at component
    work_moved component =
        ap (λ (h : Handle). option_and_then (λ (c : Component). c.work) (component_named h (moved f at.world).components)) (handle_moved f nowhere at.names component)
        ∙ (ap (option_and_then (λ (c : Component). c.work)) (named_moved f (handle_of at.names component) (at.world).components) ∙ go (component_named (handle_of at.names component) (at.world).components))
      where
        go : (o : Option Component) → option_and_then (λ (c : Component). c.work) (option_map (moved_component f) o) ≡ option_and_then (λ (c : Component). c.work) o
        go None = refl
        go (Some c) = refl

    finishes_alike : (component : List ℕ) → FinishLine at component es reply next.names → FinishLine (moved_moment f at) component ds also then.names → GoAlike f reply next also then
    finishes_alike component a b = out_alike component (work_out at component) a
        (subst (λ (o : Option Work). MatchOption o (IsNoAct (moved_names f at.names) (Plain texts.NotOut) ds also then.names)
        (λ work. (done : WorkDone) × Finishes (moved_names f at.names) component done ds also × (then.names ≡ moved_names f at.names))) (work_moved component) b)

    -- ---- a line that names no header and no kind

    text_alike : (act : TextAct) → ActLine at act es reply next.names → ActLine (moved_moment f at) act ds also then.names → GoAlike f reply next also then
    text_alike (lines.Take component) a b =
        take_alike (handle_of at.names component) (handle_of (moved_names f at.names) component) a.0 b.0 a.1 b.1 (handle_moved f nowhere at.names component) a.2 b.2 a.3 b.3
    text_alike (lines.Finish component) a b = finishes_alike component a b
    text_alike (lines.End component) a b = none_alike (Plain texts.NotOut) a b
    text_alike (lines.Free c) a b = plain_alike (asked at (lines.Free c)) a.0 _ b.0 tt (asked_moved f nowhere at (lines.Free c)) a.1 b.1 a.2 b.2
    text_alike (lines.State c) a b = plain_alike (asked at (lines.State c)) a.0 _ b.0 tt (asked_moved f nowhere at (lines.State c)) a.1 b.1 a.2 b.2
    text_alike (lines.Port p) a b = plain_alike (asked at (lines.Port p)) a.0 _ b.0 tt (asked_moved f nowhere at (lines.Port p)) a.1 b.1 a.2 b.2
    text_alike (lines.SetPort p format count size) a b = plain_alike (asked at (lines.SetPort p format count size)) a.0 _ b.0 tt (asked_moved f nowhere at (lines.SetPort p format count size)) a.1 b.1 a.2 b.2
    text_alike (lines.SetSupplier p supplier) a b = plain_alike (asked at (lines.SetSupplier p supplier)) a.0 _ b.0 tt (asked_moved f nowhere at (lines.SetSupplier p supplier)) a.1 b.1 a.2 b.2
    text_alike (lines.SetPriority c priority) a b = plain_alike (asked at (lines.SetPriority c priority)) a.0 _ b.0 tt (asked_moved f nowhere at (lines.SetPriority c priority)) a.1 b.1 a.2 b.2
    text_alike (lines.Gain c gain) a b = plain_alike (asked at (lines.Gain c gain)) a.0 _ b.0 tt (asked_moved f nowhere at (lines.Gain c gain)) a.1 b.1 a.2 b.2
    text_alike (lines.Weight p weight) a b = plain_alike (asked at (lines.Weight p weight)) a.0 _ b.0 tt (asked_moved f nowhere at (lines.Weight p weight)) a.1 b.1 a.2 b.2
    text_alike (lines.Tunnel p q) a b = plain_alike (asked at (lines.Tunnel p q)) a.0 _ b.0 tt (asked_moved f nowhere at (lines.Tunnel p q)) a.1 b.1 a.2 b.2
    text_alike (lines.DropTunnel p q) a b = plain_alike (asked at (lines.DropTunnel p q)) a.0 _ b.0 tt (asked_moved f nowhere at (lines.DropTunnel p q)) a.1 b.1 a.2 b.2
    text_alike (lines.SendState c state) a b = plain_alike (asked at (lines.SendState c state)) a.0 _ b.0 tt (asked_moved f nowhere at (lines.SendState c state)) a.1 b.1 a.2 b.2
    text_alike (lines.SendFlush c ports) a b = plain_alike (asked at (lines.SendFlush c ports)) a.0 _ b.0 tt (asked_moved f nowhere at (lines.SendFlush c ports)) a.1 b.1 a.2 b.2
    text_alike (lines.SendDisable c ports) a b = plain_alike (asked at (lines.SendDisable c ports)) a.0 _ b.0 tt (asked_moved f nowhere at (lines.SendDisable c ports)) a.1 b.1 a.2 b.2
    text_alike (lines.SendEnable c ports) a b = plain_alike (asked at (lines.SendEnable c ports)) a.0 _ b.0 tt (asked_moved f nowhere at (lines.SendEnable c ports)) a.1 b.1 a.2 b.2
    text_alike (lines.SendMark c port target value) a b = plain_alike (asked at (lines.SendMark c port target value)) a.0 _ b.0 tt (asked_moved f nowhere at (lines.SendMark c port target value)) a.1 b.1 a.2 b.2
    text_alike (lines.Run c) a b = plain_alike (asked at (lines.Run c)) a.0 _ b.0 tt (asked_moved f nowhere at (lines.Run c)) a.1 b.1 a.2 b.2
    text_alike (lines.Claim c) a b = plain_alike (asked at (lines.Claim c)) a.0 _ b.0 tt (asked_moved f nowhere at (lines.Claim c)) a.1 b.1 a.2 b.2
    text_alike (lines.Supply p) a b = plain_alike (asked at (lines.Supply p)) a.0 _ b.0 tt (asked_moved f nowhere at (lines.Supply p)) a.1 b.1 a.2 b.2
    text_alike (lines.Release p) a b = plain_alike (asked at (lines.Release p)) a.0 _ b.0 tt (asked_moved f nowhere at (lines.Release p)) a.1 b.1 a.2 b.2
    text_alike (lines.Over p) a b = plain_alike (asked at (lines.Over p)) a.0 _ b.0 tt (asked_moved f nowhere at (lines.Over p)) a.1 b.1 a.2 b.2
    text_alike (lines.Back p) a b = plain_alike (asked at (lines.Back p)) a.0 _ b.0 tt (asked_moved f nowhere at (lines.Back p)) a.1 b.1 a.2 b.2
    text_alike lines.Grant a b = plain_alike acts.Grant a.0 _ b.0 tt refl a.1 b.1 a.2 b.2
    text_alike lines.Preempt a b = plain_alike acts.Preempt a.0 _ b.0 tt refl a.1 b.1 a.2 b.2

    -- ---- a header in hand

    hand_alike : (name : List ℕ) (Then Else : Held → Type 0) → InHand at name es reply next.names Then → InHand (moved_moment f at) name ds also then.names Else
        → ((h : Held) → Then h → Else (moved_held f h) → GoAlike f reply next also then) → GoAlike f reply next also then
    hand_alike name Then Else a b goes = go (in_hand at.names name) a
        (subst (λ (o : Option Held). MatchOption o (IsNoAct (moved_names f at.names) (Plain texts.NotHeld) ds also then.names) Else) (in_hand_moved f at.names name) b)
      where
        go : (o : Option Held) → MatchOption o (IsNoAct at.names (Plain texts.NotHeld) es reply next.names) Then
            → MatchOption (option_map (moved_held f) o) (IsNoAct (moved_names f at.names) (Plain texts.NotHeld) ds also then.names) Else → GoAlike f reply next also then
        go None a b = none_alike (Plain texts.NotHeld) a b
        go (Some h) a b = goes h a b

    handed_alike : {T E : Type 0} (name : List ℕ) (h : Held) (wrap : Result T E → Reply) (unwrap : (r s : Result T E) → wrap s ≡ wrap r → s ≡ r) (a b : Act) (r s : Result T E) → MakesNone a → b ≡ moved_act f a
        → moved_reply f (wrap r) ≡ wrap r → IsAct at.names a (wrap r) es reply → IsAct (moved_names f at.names) b (wrap s) ds also
        → next.names ≡ after_handing name h r at.names → then.names ≡ after_handing name (moved_held f h) s (moved_names f at.names) → GoAlike f reply next also then
    handed_alike name h wrap unwrap a b r s makes is stays A B e d =
        finish_alike a (wrap r) b (wrap s) (after_handing name h r at.names) makes is A B e
        (λ same. d ∙ (ap (λ (x : Result _ _). after_handing name (moved_held f h) x (moved_names f at.names)) (unwrap r s (same ∙ stays)) ∙ handing_moved f name h r at.names))

    etb_alike : (long : Bool) (name : List ℕ) (port : PortName) (h : Held) → EtbLine long at name port h es reply next.names → EtbLine long (moved_moment f at) name port (moved_held f h) ds also then.names
        → GoAlike f reply next also then
    etb_alike true name port h a b = none_alike (Plain texts.TooLong) a b
    etb_alike false name port h a b =
        handed_alike name h acts.Plain (λ r s same. cc) (acts.EmptyThisBuffer (handle_of at.names port.component) port.index h) _ a.0 b.0 tt
        (ap (λ (x : Handle). acts.EmptyThisBuffer x port.index (moved_held f h)) (handle_moved f nowhere at.names port.component)) refl a.1 b.1 a.2 b.2

    -- ---- a component is made

    get_alike : (component kind : List ℕ) (r s : Result Handle CallError)
        → ((h k : Handle) → r ≡ Ok h → s ≡ Ok k → h.generation ≡ (at.world).numbered → k.generation ≡ (at.world).numbered → (at.world).numbered ≢ last_number → moved_handle f h ≡ k)
        → IsAct at.names (acts.GetHandle kind) (acts.Got r) es reply → IsAct (moved_names f at.names) (acts.GetHandle kind) (acts.Got s) ds also
        → next.names ≡ with_component component r at.names → then.names ≡ with_component component s (moved_names f at.names) → GoAlike f reply next also then
    get_alike component kind r s seats A B e d =
        let one = only at.world next.world (acts.GetHandle kind) (acts.Got r) (subst (λ (x : List Entry). Run at.world x next.world) A.one run) in
        let two = only (moved f at.world) then.world (acts.GetHandle kind) (acts.Got s) (subst (λ (x : List Entry). Run (moved f at.world) x then.world) B.one other) in
        let both = gets_alike f at.world kind r next.world s then.world
        (λ no. let says : printed at.names (acts.Got (Err OutOfMemory)) ≡ Some reply = ap (λ (x : Result Handle CallError). printed at.names (acts.Got x)) (sym no) ∙ A.says in absurd cc)
        (λ no. let says : printed (moved_names f at.names) (acts.Got (Err OutOfMemory)) ≡ Some also = ap (λ (x : Result Handle CallError). printed (moved_names f at.names) (acts.Got x)) (sym no) ∙ B.says in absurd cc)
        seats one.1 two.1 in
        let world = both.1 in
        let names = d ∙ ((λ j. with_component component (both.0 j) (moved_names f at.names)) ∙ (with_component_moved f component r at.names ∙ sym (ap (moved_names f) e))) in
        let says : Some also ≡ Some reply = sym B.says ∙ (ap (λ (x : Result Handle CallError). printed (moved_names f at.names) (acts.Got x)) both.0 ∙ (printed_moved f at.names (acts.Got r) ∙ A.says)) in
        record { same = cc; goes = λ j. record { world = world j; names = names j } }

    -- the handles of what was just made are each other's
    abbrev pub AreSeated : TraceForm → Type 0
    AreSeated (forms.Get component kind) = (h k : Handle) (r s : Result Handle CallError) → r ≡ Ok h → s ≡ Ok k → next.names ≡ with_component component r at.names
        → then.names ≡ with_component component s (moved_names f at.names) → h.generation ≡ (at.world).numbered → k.generation ≡ (at.world).numbered → (at.world).numbered ≢ last_number → moved_handle f h ≡ k
    AreSeated other = Unit {0}

    -- ---- any line

    pub line_alike : (form : TraceForm) → AreSeated form → Line at form es reply next.names → Line (moved_moment f at) form ds also then.names → GoAlike f reply next also then
    line_alike (forms.Act act) seats a b = text_alike act a b
    line_alike (forms.Get component kind) seats a b =
        get_alike component kind a.0 b.0 (λ h k e d g k_g few. seats h k a.0 b.0 e d a.2 b.2 g k_g few) a.1 b.1 a.2 b.2
    line_alike (forms.Alloc header port) seats a b =
        finish_alike (acts.AllocateBuffer (handle_of at.names port.component) port.index) (acts.Allocated a.0) _ (acts.Allocated b.0) (with_header header a.0 at.names) tt
        (ap (λ (x : Handle). acts.AllocateBuffer x port.index) (handle_moved f nowhere at.names port.component)) a.1 b.1 a.2
        (λ same. b.2 ∙ (ap (λ (x : Result Held CallError). with_header header x (moved_names f at.names)) (allocated_same b.0 _ same) ∙ with_header_moved f header a.0 at.names))
    line_alike (forms.UseBuf header port size) seats a b =
        finish_alike (acts.UseBuffer (handle_of at.names port.component) port.index (replicate size 0)) (acts.Used a.0) _ (acts.Used b.0) (with_header header a.0 at.names) tt
        (ap (λ (x : Handle). acts.UseBuffer x port.index (replicate size 0)) (handle_moved f nowhere at.names port.component)) a.1 b.1 a.2
        (λ same. b.2 ∙ (ap (λ (x : Result Held OmxError). with_header header x (moved_names f at.names)) (used_same b.0 _ same) ∙ with_header_moved f header a.0 at.names))
    line_alike (forms.FreeBuf header port) seats a b = hand_alike header _ _ a b
        (λ h x y. handed_alike header h acts.Freed (λ r s same. cc) (acts.FreeBuffer (handle_of at.names port.component) port.index h.number) _ x.0 y.0 tt
        (ap (λ (k : Handle). acts.FreeBuffer k port.index h.number) (handle_moved f nowhere at.names port.component)) refl x.1 y.1 x.2 y.2)
    line_alike (forms.Etb header port bytes eos) seats a b = hand_alike header _ _ a b
        (λ h x y. etb_alike (is_too_long (with_content bytes (line_flags eos) h)) header port (with_content bytes (line_flags eos) h) x y)
    line_alike (forms.Ftb header port) seats a b = hand_alike header _ _ a b
        (λ h x y. handed_alike header h acts.Plain (λ r s same. cc) (acts.FillThisBuffer (handle_of at.names port.component) port.index h) _ x.0 y.0 tt
        (ap (λ (k : Handle). acts.FillThisBuffer k port.index (moved_held f h)) (handle_moved f nowhere at.names port.component)) refl x.1 y.1 x.2 y.2)
