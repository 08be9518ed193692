-- Two values of what is seen of headers that agree everywhere are one.
use Rattle.std.proofs.Common.{◌≡◌, ℕ, Bool}
use Rattle.std.proofs.Math.Path.{fun_ext}
use Rattle.il_machine.specs.declared.port.PortKey.{PortKey}
use Rattle.il_machine.specs.declared.header.HeaderState.{HeaderState}
use Rattle.il_machine.specs.Headers.{Seen}

pub record Agree (a b : Seen) : Type 0 where
  pub todo : (key : PortKey) → a.todo key ≡ b.todo key
  pub done : (key : PortKey) → a.done key ≡ b.done key
  pub unmarked : (key : PortKey) → a.unmarked key ≡ b.unmarked key
  pub header : (number : ℕ) → a.header number ≡ b.header number
  pub count : (test : HeaderState → Bool) → a.count test ≡ b.count test

pub same_seen : (a b : Seen) → Agree a b → a ≡ b
same_seen a b S =
    let t : a.todo ≡ b.todo = fun_ext S.todo in
    let d : a.done ≡ b.done = fun_ext S.done in
    let u : a.unmarked ≡ b.unmarked = fun_ext S.unmarked in
    let h : a.header ≡ b.header = fun_ext S.header in
    let c : a.count ≡ b.count = fun_ext S.count in
    λ i. record { todo = t i; done = d i; unmarked = u i; header = h i; count = c i }
