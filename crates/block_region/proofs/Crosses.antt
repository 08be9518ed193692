-- What these types own and show names no thread.
use Rattle.std.proofs.Common.{ℕ, zero, suc, ◌+◌, Bool, true, false, List, [], ◌∷◌}
use base.Fraction.{full_share}
use base.Fml.{GName}
use base.Shift.{Keyless}
use denote.Builtin.{u8}
use denote.RawPtr.{Ptr, block_ptr, null_ptr}
use denote.RawPtr.Bytes.{bytes}
use denote.Param.Send.{IsSend, IsSync, part_keyless, sendable, Frees, struct_send, owning_send}
use denote.RattleType.{RattleType}
use denote.Struct.Declared as declared
use Rattle.std.specs.declared.alloc.Allocator.{Ghosts}
use Rattle.std_alloc.proofs.SendSync.{Vec-send}
use Rattle.block_region.specs.contracts.memory.Sole as Sole
use Rattle.block_region.specs.contracts.memory.Sole.TheInside as Inside
use Rattle.block_region.specs.contracts.roster.Roster as Roster
use Rattle.block_region.specs.contracts.roster.Ticket as Ticket
use Rattle.block_region.specs.contracts.seal.Seal as Seal
use Rattle.block_region.specs.Ownership.{room_owns, room_of, entry, entries, ticket}

pub u8-send : IsSend u8
u8-send = search sendable

room_owns-keyless : (p : Ptr) (n : ℕ) → Keyless (room_owns p n)
room_owns-keyless (block_ptr b o) n = tt
room_owns-keyless null_ptr n = tt

pub sole-send : (A : RattleType) (g : Ghosts A.Denot) → IsSend A → Frees g g.dealloc_token → IsSend (Sole.the_row A g)
sole-send A g s f = record {
  owned = λ e vs. (
    (λ _. tt),
    λ v. (
      tt,
      (room_owns-keyless e.ptr e.len, (struct_send (declared.shape (Inside.the_type A g)) (Vec-send u8 A g u8-send s f, tt)).owned (v.vec, tt) vs),
    ),
  );
  leaving = λ k x w. tt;
}

pub sole-sync : (A : RattleType) (g : Ghosts A.Denot) → IsSync (Sole.the_row A g)
sole-sync A g = record { shared = λ e b o κ. tt }

bytes-keyless : (xs : List ℕ) (b o : ℕ) → Keyless (bytes full_share xs b o)
bytes-keyless [] b o = tt
bytes-keyless (x ∷ xs) b o = (part_keyless u8 u8-send full_share x b o, bytes-keyless xs b (o + 1))

room-keyless : (n b o : ℕ) → Keyless (room_of n b o)
room-keyless n b o = λ xs. (tt, bytes-keyless xs b o)

entry-keyless : (size : ℕ) (γ : GName) (h : Bool) (b o : ℕ) → Keyless (entry size γ h b o)
entry-keyless size γ true b o = (tt, room-keyless size b o)
entry-keyless size γ false b o = tt

entries-keyless : (size : ℕ) (gs : List GName) (hs : List Bool) (b o : ℕ) → Keyless (entries size gs hs b o)
entries-keyless size [] [] b o = tt
entries-keyless size [] (h ∷ hs) b o = tt
entries-keyless size (γ ∷ gs) [] b o = ((tt, (tt, tt)), entries-keyless size gs [] b (o + size))
entries-keyless size (γ ∷ gs) (h ∷ hs) b o = (entry-keyless size γ h b o, entries-keyless size gs hs b (o + size))

ticket-keyless : (gs : List GName) (n : ℕ) (h : Bool) → Keyless (ticket gs n h)
ticket-keyless [] n h = tt
ticket-keyless (γ ∷ gs) zero h = tt
ticket-keyless (γ ∷ gs) (suc n) h = ticket-keyless gs n h

pub roster-send : IsSend Roster.the_row
roster-send = owning_send Roster.the_type tt (λ r. entries-keyless r.key.size r.key.names r.home r.key.object r.key.start) (λ k x w. tt)

pub ticket-send : IsSend Ticket.the_row
ticket-send = owning_send Ticket.the_type tt (λ t. ticket-keyless t.key.names t.number t.home) (λ k x w. tt)

pub seal-send : IsSend Seal.the_row
seal-send = owning_send Seal.the_type tt (λ s. tt) (λ k x w. tt)
