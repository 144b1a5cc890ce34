-- A device that is stepped beside a guest: before step i the guest makes of guest memory what it likes.
use Rattle.std.specs.Prelude.{ℕ, zero, suc, ◌+◌, ◌-◌, ◌*◌, ◌%◌, List, [], ◌∷◌, ◌++◌, ◌≡◌, eqb, length}
use Rattle.model.specs.Pick.{pick}
use Rattle.model.specs.Bytes.{part, word}
use Rattle.model.specs.Ring.{plus_one}
use Rattle.model.specs.Chain.{desc_at}
use Rattle.model.specs.Step.{Cfg, State, Out, apply, step}
use Rattle.model.specs.declared.Span.{Span}
use Rattle.model.specs.declared.Queue.{Queue}
use Rattle.model.specs.declared.Phase.{Phase}
use Rattle.model.specs.declared.Phase.TheVariants.{Poll, Broken}
use Rattle.requests.specs.Serve.{Seen, Outcome, idle, breaks, serves, backing_after}
use Rattle.requests.specs.Steps.{up_to, past}

-- step number i, over the memory that the guest makes of what the step before has left; and n steps from number i on
unfoldable pub again : Cfg → (ℕ → List ℕ → List ℕ) → ℕ → Out → Out
again c g i o = step c o.state (g i o.mem) o.backing o.chain o.stage

unfoldable pub after : Cfg → (ℕ → List ℕ → List ℕ) → ℕ → ℕ → Out → Out
after c g i zero o = o
after c g i (suc n) o = after c g (suc i) n (again c g i o)

abbrev pub out : ℕ → ℕ → ℕ → Phase → List ℕ → List ℕ → List ℕ → List ℕ → ℕ → Out
out t a n p mem backing chain stage code =
    record { state = record { taken = t; answered = a; descs = n; phase = p }; mem = mem; backing = backing; chain = chain; stage = stage; code = code }

-- buffers fetched one in each step from number i on, each from the memory of its step
unfoldable pub gather_from : (ℕ → List ℕ) → ℕ → List Span → List ℕ
gather_from mems i [] = []
gather_from mems i (s ∷ ss) = part s.at s.len (mems i) ++ gather_from mems (suc i) ss

-- 01 §4: idx, entry, descriptors, header and payload as they are when they are fetched, the memories being those of steps 0, 1, 2, ..
unfoldable pub changing : Queue → ℕ → (ℕ → List ℕ) → Seen
changing q taken mems =
    record {
      idx = word 2 (q.avail + 2) (mems 0);
      entry = word 2 (q.avail + (4 + 2 * (taken % q.size))) (mems 1);
      desc = λ j n. desc_at (q.desc + 16 * n) (mems (2 + j));
      string = λ rs ws.
          gather_from mems (2 + (length rs + length ws)) (up_to 16 rs)
          ++ gather_from mems (2 + (length rs + length ws) + length (up_to 16 rs)) (past 16 rs);
    }

-- guest memory at steps 0, 1, 2, .., as long as the device writes none of it
unfoldable pub memories : (ℕ → List ℕ → List ℕ) → List ℕ → ℕ → List ℕ
memories g mem zero = g 0 mem
memories g mem (suc i) = g (suc i) (memories g mem i)

-- The memory that n steps leave. The bytes of S6 go to the memory of its step, idx to the memory that the guest makes of that.
unfoldable pub memory_beside : (ℕ → List ℕ → List ℕ) → (ℕ → List ℕ) → ℕ → Outcome → List ℕ
memory_beside g mems n idle = mems (n - 1)
memory_beside g mems n (breaks reason head fetched at) = mems (n - 1)
memory_beside g mems n (serves writes idx after head len descs) = apply (idx ∷ []) (g (n - 1) (apply writes (mems (n - 2))))

-- The device is at S1 again, both counters one more if a request was served; or it is broken. The last complete chain is this one, or, if this one was
-- refused at a descriptor (which reason 8 is not), that of n descriptors before it.
unfoldable pub state_after : Outcome → ℕ → ℕ → ℕ → State
state_after idle t a n = record { taken = t; answered = a; descs = n; phase = Poll }
state_after (breaks reason head fetched at) t a n =
    record { taken = t; answered = a; descs = pick (eqb reason 8) fetched n; phase = Broken reason head fetched at }
state_after (serves writes idx after head len descs) t a n = record { taken = plus_one t; answered = plus_one a; descs = descs; phase = Poll }

-- what the last of the calls answers: "0 nothing to do · 2 a request was answered just now · 3 broken in this step"
unfoldable pub code_for : Outcome → ℕ
code_for idle = 0
code_for (breaks reason head fetched at) = 3
code_for (serves writes idx after head len descs) = 2

-- an output of the device is what an outcome says: the state, guest memory, the backing slice and the answer
pub record Agrees (w : Outcome) (t a n : ℕ) (mem backing : List ℕ) (o : Out) : Type 0 where
  pub state-is : o.state ≡ state_after w t a n
  pub mem_is : o.mem ≡ mem
  pub backing-is : o.backing ≡ backing_after w backing
  pub code_is : o.code ≡ code_for w
