-- The lines that hand a header in, by their acts' answers.
use Rattle.std.proofs.Common.{◌≡◌, ℕ, ◌<◌, ◌≤◌, Bool, true, false, nat_lt, List, [], ◌∷◌, set, length, Some, None, Result, Ok, Err, le-ltb, ltb-false, ltb-true, refl, sym, ◌∙◌, ap, subst, arith}
use Rattle.std.specs.Int.{from_bool}
use Rattle.omx_types.specs.declared.error.OmxError.{OmxError}
use Rattle.omx_types.specs.declared.handle.PortId.{PortId}
use Rattle.il_machine.specs.declared.header.HeaderState.{HeaderState}
use Rattle.il_machine.specs.Look.{Look, look}
use Rattle.il_machine.specs.World.{World}
use Rattle.il_machine.specs.Buffers.{Held, IsWithClient, IsHeldByClient, FreeBuffer, EmptyThisBuffer, FillThisBuffer}
use Rattle.il_machine.specs.Acts.{Act}
use Rattle.il_machine.specs.Acts as acts
use Rattle.il_machine.specs.Whole.{Kept, Stands, Steps}
use Rattle.machine_laws.proofs.Finding.{either}
use Rattle.machine_laws.proofs.Keys.{is_there, there_is}
use Rattle.header_core.specs.declared.memory.Store.{Store}
use Rattle.header_core.specs.declared.memory.Store.TheVariants.{Own, Region}
use Rattle.header_core.specs.BufferHeader.{BufferHeader, filled}
use Rattle.port_stock.specs.Conditions.{IsHeaderOf}
use Rattle.graph_core.specs.Changes.{IsHandedIn}
use Rattle.act_text.specs.declared.name.PortName.{PortName}
use Rattle.act_text.specs.declared.reply.TextReply.TheVariants as texts
use Rattle.script_lang.specs.declared.form.TraceForm.TheVariants as forms
use Rattle.trace_run.specs.declared.slots.Slot.{Slot}
use Rattle.trace_run.specs.Naming.{Moment, Names, handle_in, handle_of, port_in}
use Rattle.trace_run.specs.Replying.{LineReply, Plain}
use Rattle.trace_run.specs.Lines.{Entry, EtbLine, is_too_long, line_flags}
use Rattle.trace_run.specs.InHand.{IsTakenOut}
use Rattle.trace_run.specs.Standing.{Parts, holding, Rehanded, IsMoment, HasMoment, Leads}
use Rattle.trace_run.proofs.Handed.{IsSameHeader, in_hand_of, may_be_handed, put_back, stays, went_in, came_back, when_some}
use Rattle.trace_run.proofs.HandedOut.{by_names, with_slots}

-- ---- what the caller sees to

with_client : (header : BufferHeader) (k : Kept) (w : World) → Stands k w → IsHandedIn header k.looks → IsWithClient header.held.number (look w)
with_client header k w S h =
    let x = there_is ((k.looks).headers.header header.held.number) _ h.1 in
    is_there ((look w).headers.header header.held.number) _ x.0 (ap (λ (l : Look). l.headers.header header.held.number) S.looks ∙ x.1) x.2.0

within : (n s t : ℕ) → s ≡ t → n ≤ s → n ≤ t
within n s t e h = omega (arith, e, h)

held_by_client : (header : BufferHeader) (k : Kept) (w : World) → Stands k w → length header.held.content ≤ header.held.size → IsHandedIn header k.looks → IsHeldByClient header.held (look w)
held_by_client header k w S l h =
    let x = there_is ((k.looks).headers.header header.held.number) _ h.1 in
    let H = x.2.1 in
    is_there ((look w).headers.header header.held.number) _ x.0 (ap (λ (l : Look). l.headers.header header.held.number) S.looks ∙ x.1) (x.2.0, H.size, within (length header.held.content) header.held.size (x.0).size H.size l)

-- filled with bytes it is the same header
filled_of : (s : HeaderState) (bytes : List ℕ) (flags : ℕ) (header : BufferHeader) → IsHeaderOf s header → (store : Store) → header.store ≡ store → IsHeaderOf s (filled bytes flags header)
filled_of s bytes flags header H (Own own) e = record { size = H.size; memory = rw e (rw e at H.memory) }
filled_of s bytes flags header H (Region block) e = record { size = H.size; memory = rw e (rw e at H.memory) }

filled_in : (header : BufferHeader) (bytes : List ℕ) (flags : ℕ) (l : Look) → IsHandedIn header l → IsHandedIn (filled bytes flags header) l
filled_in header bytes flags l h =
    let x = there_is (l.headers.header header.held.number) _ h.1 in
    (h.0, is_there (l.headers.header header.held.number) _ x.0 x.1 (x.2.0, filled_of x.0 bytes flags header x.2.1 header.store refl))

pub flag_of : (eos : Bool) → from_bool eos ≡ line_flags eos
flag_of true = refl
flag_of false = refl

pub filled_by : (given : BufferHeader) (bytes : List ℕ) (flags : ℕ) (eos : Bool) (header : BufferHeader) → given ≡ filled bytes flags header → flags ≡ from_bool eos → given ≡ filled bytes (line_flags eos) header
filled_by given bytes flags eos header e f = e ∙ ap (λ (n : ℕ). filled bytes n header) (f ∙ flag_of eos)

-- ---- bytes and the header's size

pub too_long : (bytes : List ℕ) (size : ℕ) → ¬ (length bytes ≤ size) → nat_lt size (length bytes) ≡ true
too_long bytes size n = either (nat_lt size (length bytes)) (λ t. t) (λ f. absurd (n (ltb-false size (length bytes) f)))

pub fits_in : (bytes : List ℕ) (size : ℕ) → ¬ (size < length bytes) → length bytes ≤ size
fits_in bytes size n = either (nat_lt size (length bytes)) (λ t. absurd (n (ltb-true size (length bytes) t))) (λ f. ltb-false size (length bytes) f)

-- ---- the lines

etb_by : (b c : Bool) (at : Moment) (name : List ℕ) (port : PortName) (header : Held) (entries : List Entry) (reply : LineReply) (next : Names) → b ≡ c → EtbLine c at name port header entries reply next → EtbLine b at name port header entries reply next
etb_by b c at name port header entries reply next e h = subst (λ (x : Bool). EtbLine x at name port header entries reply next) (sym e) h

module _ (old : Parts) (graph : Kept) (name : List ℕ) (place : ℕ) (header : BufferHeader) (without : List Slot) (T : IsTakenOut old.slots name place (Some header) without) (S : HasMoment old)
    (port : PortName) (id : PortId) (is : id ≡ port_in old.components port) where
  same : (at : Moment) → IsMoment old at → IsSameHeader old name place header without T header
  same at s = record { number = refl; handed = may_be_handed old name place header without T S }

  handed : IsHandedIn header (old.graph).looks
  handed = may_be_handed old name place header without T S

  pub freed : (memory : Bool) → Steps old.graph graph (λ w v. FreeBuffer w id.handle id.index header.held.number (Ok memory) v)
      → Leads old (record { graph = graph; components = old.components; slots = without }) (forms.FreeBuf name port) (Plain texts.Done)
  freed memory steps =
      let form = forms.FreeBuf name port in
      let act : Names → Act = λ names. acts.FreeBuffer (handle_of names port.component) port.index header.held.number in
      let r = acts.Freed (Ok memory) in
      with_slots old graph form (Plain texts.Done) (set old.slots place (holding None T.slot)) without T.taken
      (went_in old name place header without T graph form (acts.FreeBuffer (handle_in old.components port.component) port.index header.held.number) r (Plain texts.Done) header same
      (λ w s. with_client header old.graph w s handed) tt refl tt (subst (λ (k : PortId). Steps old.graph graph (λ w v. FreeBuffer w k.handle k.index header.held.number (Ok memory) v)) is steps) refl
      (λ at s. when_some _ _ _ header.held (in_hand_of old name place header without T at s) (Ok memory, record { one = by_names old at (λ names. (act names, r) ∷ []) s; says = refl }, refl)))

  pub free_refused : (error : OmxError) (slots : List Slot) → Rehanded place (Some header) without slots → Steps old.graph graph (λ w v. FreeBuffer w id.handle id.index header.held.number (Err error) v)
      → Leads old (record { graph = graph; components = old.components; slots = slots }) (forms.FreeBuf name port) (Plain (texts.Error error))
  free_refused error slots R steps =
      let form = forms.FreeBuf name port in
      let act : Names → Act = λ names. acts.FreeBuffer (handle_of names port.component) port.index header.held.number in
      let r = acts.Freed (Err error) in
      with_slots old graph form (Plain (texts.Error error)) (set old.slots place (holding (Some header) T.slot)) slots (put_back old.slots name place (Some header) without T (Some header) slots R)
      (came_back old name place header without T graph form (acts.FreeBuffer (handle_in old.components port.component) port.index header.held.number) r (Plain (texts.Error error)) header same
      (λ w s. with_client header old.graph w s handed) tt refl tt (subst (λ (k : PortId). Steps old.graph graph (λ w v. FreeBuffer w k.handle k.index header.held.number (Err error) v)) is steps) refl
      (λ at s. when_some _ _ _ header.held (in_hand_of old name place header without T at s) (Err error, record { one = by_names old at (λ names. (act names, r) ∷ []) s; says = refl }, refl)))

  module _ (sized : length header.held.content ≤ header.held.size) where
    pub filled_up : Steps old.graph graph (λ w v. FillThisBuffer w id.handle id.index header.held (Ok tt) v) → Leads old (record { graph = graph; components = old.components; slots = without }) (forms.Ftb name port) (Plain texts.Done)
    filled_up steps =
        let form = forms.Ftb name port in
        let act : Names → Act = λ names. acts.FillThisBuffer (handle_of names port.component) port.index header.held in
        let r = acts.Plain (Ok tt) in
        with_slots old graph form (Plain texts.Done) (set old.slots place (holding None T.slot)) without T.taken
        (went_in old name place header without T graph form (acts.FillThisBuffer (handle_in old.components port.component) port.index header.held) r (Plain texts.Done) header same
        (λ w s. held_by_client header old.graph w s sized handed) tt refl tt (subst (λ (k : PortId). Steps old.graph graph (λ w v. FillThisBuffer w k.handle k.index header.held (Ok tt) v)) is steps) refl
        (λ at s. when_some _ _ _ header.held (in_hand_of old name place header without T at s) (Ok tt, record { one = by_names old at (λ names. (act names, r) ∷ []) s; says = refl }, refl)))

    pub fill_refused : (error : OmxError) (slots : List Slot) → Rehanded place (Some header) without slots → Steps old.graph graph (λ w v. FillThisBuffer w id.handle id.index header.held (Err error) v)
        → Leads old (record { graph = graph; components = old.components; slots = slots }) (forms.Ftb name port) (Plain (texts.Error error))
    fill_refused error slots R steps =
        let form = forms.Ftb name port in
        let act : Names → Act = λ names. acts.FillThisBuffer (handle_of names port.component) port.index header.held in
        let r = acts.Plain (Err error) in
        with_slots old graph form (Plain (texts.Error error)) (set old.slots place (holding (Some header) T.slot)) slots (put_back old.slots name place (Some header) without T (Some header) slots R)
        (came_back old name place header without T graph form (acts.FillThisBuffer (handle_in old.components port.component) port.index header.held) r (Plain (texts.Error error)) header same
        (λ w s. held_by_client header old.graph w s sized handed) tt refl tt (subst (λ (k : PortId). Steps old.graph graph (λ w v. FillThisBuffer w k.handle k.index header.held (Err error) v)) is steps) refl
        (λ at s. when_some _ _ _ header.held (in_hand_of old name place header without T at s) (Err error, record { one = by_names old at (λ names. (act names, r) ∷ []) s; says = refl }, refl)))

  -- with the line's bytes and flag
  module _ (bytes : List ℕ) (eos : Bool) where
    abbrev full : BufferHeader
    full = filled bytes (line_flags eos) header

    pub was_too_long : (slots : List Slot) → slots ≡ old.slots → nat_lt header.held.size (length bytes) ≡ true → Leads old (record old { slots = slots }) (forms.Etb name port bytes eos) (Plain texts.TooLong)
    was_too_long slots e long = stays old slots (forms.Etb name port bytes eos) (Plain texts.TooLong) e
        (λ at s. when_some _ _ _ header.held (in_hand_of old name place header without T at s) (etb_by (is_too_long full.held) true at name port full.held [] (Plain texts.TooLong) at.names long (record { none = refl; says = refl; same = refl })))

    module _ (given : BufferHeader) (by : given ≡ filled bytes (line_flags eos) header) (fits : length bytes ≤ header.held.size) where
      full_handed : IsHandedIn full (old.graph).looks
      full_handed = filled_in header bytes (line_flags eos) (old.graph).looks handed

      pub given_handed : IsHandedIn given (old.graph).looks
      given_handed = subst (λ (g : BufferHeader). IsHandedIn g (old.graph).looks) (sym by) full_handed

      same_full : (at : Moment) → IsMoment old at → IsSameHeader old name place header without T full
      same_full at s = record { number = refl; handed = full_handed }

      pub emptied : Steps old.graph graph (λ w v. EmptyThisBuffer w id.handle id.index given.held (Ok tt) v)
          → Leads old (record { graph = graph; components = old.components; slots = without }) (forms.Etb name port bytes eos) (Plain texts.Done)
      emptied steps =
          let form = forms.Etb name port bytes eos in
          let act : Names → Act = λ names. acts.EmptyThisBuffer (handle_of names port.component) port.index full.held in
          let result : Result (Unit {0}) OmxError = Ok tt in
          let r = acts.Plain result in
          with_slots old graph form (Plain texts.Done) (set old.slots place (holding None T.slot)) without T.taken
          (went_in old name place header without T graph form (acts.EmptyThisBuffer (handle_in old.components port.component) port.index full.held) r (Plain texts.Done) full same_full
          (λ w s. held_by_client full old.graph w s fits full_handed) tt refl tt
          (subst (λ (k : PortId). Steps old.graph graph (λ w v. EmptyThisBuffer w k.handle k.index full.held result v)) is (subst (λ (g : BufferHeader). Steps old.graph graph (λ w v. EmptyThisBuffer w id.handle id.index g.held result v)) by steps)) refl
          (λ at s. when_some _ _ _ header.held (in_hand_of old name place header without T at s)
          (etb_by (is_too_long full.held) false at name port full.held _ (Plain texts.Done) _ (le-ltb header.held.size (length bytes) fits) (result, record { one = by_names old at (λ names. (act names, r) ∷ []) s; says = refl }, refl))))

      pub empty_refused : (error : OmxError) (slots : List Slot) → Rehanded place (Some given) without slots → Steps old.graph graph (λ w v. EmptyThisBuffer w id.handle id.index given.held (Err error) v)
          → Leads old (record { graph = graph; components = old.components; slots = slots }) (forms.Etb name port bytes eos) (Plain (texts.Error error))
      empty_refused error slots R steps =
          let form = forms.Etb name port bytes eos in
          let act : Names → Act = λ names. acts.EmptyThisBuffer (handle_of names port.component) port.index full.held in
          let result : Result (Unit {0}) OmxError = Err error in
          let r = acts.Plain result in
          with_slots old graph form (Plain (texts.Error error)) (set old.slots place (holding (Some full) T.slot)) slots
          (put_back old.slots name place (Some header) without T (Some full) slots (subst (λ (g : BufferHeader). Rehanded place (Some g) without slots) by R))
          (came_back old name place header without T graph form (acts.EmptyThisBuffer (handle_in old.components port.component) port.index full.held) r (Plain (texts.Error error)) full same_full
          (λ w s. held_by_client full old.graph w s fits full_handed) tt refl tt
          (subst (λ (k : PortId). Steps old.graph graph (λ w v. EmptyThisBuffer w k.handle k.index full.held result v)) is (subst (λ (g : BufferHeader). Steps old.graph graph (λ w v. EmptyThisBuffer w id.handle id.index g.held result v)) by steps)) refl
          (λ at s. when_some _ _ _ header.held (in_hand_of old name place header without T at s)
          (etb_by (is_too_long full.held) false at name port full.held _ (Plain (texts.Error error)) _ (le-ltb header.held.size (length bytes) fits) (result, record { one = by_names old at (λ names. (act names, r) ∷ []) s; says = refl }, refl))))
