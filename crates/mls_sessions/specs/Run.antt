-- What a run writes for an audience, and where a run that stops leaves things.
use Rattle.std.specs.Prelude.{◌≡◌, ◌≢◌, ℕ, ◌-◌, ◌≤◌, if◌then◌else◌, ◌&&◌, Bool, true, false, List, [], ◌∷◌, ◌++◌}
use Rattle.std.specs.Prelude.{length, take, Option, Some, None}
use Rattle.std.specs.Io.KnownBytes.{Appends}
use Rattle.mls_translang.specs.declared.event.Event.{Event}
use Rattle.mls_updates.specs.Outcome.{is_done as is_write_done}
use Rattle.mls_machine.specs.declared.form.Audience.{Audience}
use Rattle.mls_machine.specs.declared.reply.Reply.{Reply}
use Rattle.mls_machine.specs.declared.reply.Reply.TheVariants.{Denied, Wrote, Undone}
use Rattle.mls_certcheck.specs.Site.{Site}
use Rattle.mls_machine.specs.Machine.{World, step, end_of}
use Rattle.mls_machine.specs.Observation.{run_shows}
use Rattle.mls_machine.specs.Showing.{reply_shows}
use Rattle.mls_translang.specs.declared.run_fault.RunCause.{RunCause}
use Rattle.mls_translang.specs.declared.run_fault.RunCause.TheVariants.{Write}
use Rattle.mls_translang.specs.declared.run_fault.RunFault.{RunFault}
use Rattle.mls_sessions.specs.declared.notice.Notice.{Notice}
use Rattle.mls_sessions.specs.declared.notice.Notice.TheVariants as notices

-- the world after the first n events of a run from w
abbrev pub world_after : Site → World → List Event → ℕ → World
world_after site w es n = end_of site w (take n es)

-- what was asked for is done: it is not denied, and is no write, and no batch, that is refused
abbrev pub is_done : Reply → Bool
is_done (Denied denial) = false
is_done (Wrote outcome) = is_write_done outcome
is_done (Undone number outcome) = false
is_done reply = true

-- all events of a run from a world are done
unfoldable pub are_done : Site → World → List Event → Bool
are_done site w [] = true
are_done site w (e ∷ es) = is_done (step site w e).reply && are_done site (step site w e).world es

-- why an event with this reply was not done
abbrev pub notice_of : Reply → Option Notice
notice_of (Denied denial) = Some (notices.Denied denial)
notice_of (Wrote outcome) = if is_write_done outcome then None else Some (notices.Refused outcome)
notice_of (Undone number outcome) = Some (notices.Undone number outcome)
notice_of reply = None

-- the later one, or else the earlier
abbrev pub last_of : Option Notice → Option Notice → Option Notice
last_of None earlier = earlier
last_of (Some later) earlier = Some later

-- why the last event of a run from a world that was not done was not
unfoldable pub notice_in : Site → World → List Event → Option Notice
notice_in site w [] = None
notice_in site w (e ∷ es) = last_of (notice_in site (step site w e).world es) (notice_of (step site w e).reply)

-- a run from w, of which the lines are written whose labels the reader dominates, or all, in the audience's form
module _ (site : Site) (audience : Audience) (w : World) (es : List Event) where
  -- what the first n events print
  abbrev pub printed_to : ℕ → List ℕ
  printed_to n = run_shows site audience w (take n es)

  -- all events are answered: what is written is these lines of the replies, and nothing else
  pub record IsWhole (before after : Option (List ℕ)) (new : World) : Type 0 where
    pub bytes : Appends before after (run_shows site audience w es)
    pub world : new ≡ end_of site w es

  -- a run that stopped at an event, by its number from 1: the replies before it are written whole, and of its own reply
  -- a first part, which is empty unless a write failed; the event's change stands where it is done
  pub record IsStopped (before after : Option (List ℕ)) (new : World) (fault : RunFault) : Type 0 where
    pub part : List ℕ
    pub rest : List ℕ
    pub bytes : Appends before after (printed_to (fault.event - 1) ++ part)
    pub reply : (printed_to (fault.event - 1) ++ part) ++ rest ≡ printed_to fault.event
    pub none : fault.cause ≢ Write → part ≡ []
    pub world : new ≡ world_after site w es (if fault.done then fault.event else fault.event - 1)

-- the number of an event, whose change stands where a write failed
pub record IsFaultOf (es : List Event) (fault : RunFault) : Type 0 where
  pub first : 1 ≤ fault.event
  pub last : fault.event ≤ length es
  pub write : fault.cause ≡ Write → fault.done ≡ true

-- ---- one event

-- bytes written up to a fault
pub record IsPart (before after : Option (List ℕ)) (bytes : List ℕ) : Type 0 where
  pub part : List ℕ
  pub rest : List ℕ
  pub appends : Appends before after part
  pub whole : part ++ rest ≡ bytes

module _ (site : Site) (audience : Audience) (w : World) (event : Event)
    (before after : Option (List ℕ)) (new : World) where
  -- what its reply prints
  abbrev pub answer_text : List ℕ
  answer_text = reply_shows site audience event (step site w event).reply

  -- an event was answered, and its reply is written whole
  pub record IsEventAnswered : Type 0 where
    pub bytes : Appends before after answer_text
    pub world : new ≡ (step site w event).world

  -- it was not, or its reply is not written whole
  pub record IsHalted (cause : RunCause) (done : Bool) : Type 0 where
    pub reply : IsPart before after answer_text
    pub none : cause ≢ Write → reply.part ≡ []
    pub world : new ≡ (if done then (step site w event).world else w)
