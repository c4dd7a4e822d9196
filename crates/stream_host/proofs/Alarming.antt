-- Behind an alarm nothing more of the job is sent.
use Rattle.std.proofs.Common.{◌≡◌, ℕ, ◌||◌, Bool, true, false, cond, List, [], ◌∷◌, ◌++◌, refl, sym, ap, ◌∙◌}
use Rattle.std.specs.List.{list_any}
use Rattle.std.proofs.lemmas.List.Folds.{list_any-append}
use Rattle.status_report.specs.declared.Reply.{Reply}
use Rattle.host_journal.specs.declared.Stop.{Stop}
use Rattle.host_journal.specs.declared.Stop.TheVariants.{End, LongLine, TooLarge, Alarm}
use Rattle.run_rules.specs.Work.{is_limit}
use Rattle.host_journal.specs.Steps.{Journal, got_of, has_limit, line_raises_of, or_alarm, resumes_next}
use Rattle.host_journal.specs.Steps.PortStep.{stored, dropped, marked, raised, got, no_reply, shut}
use Rattle.host_journal.specs.Steps.Step.{at_port, read_some, read_end, read_failed, scanned, line_over, wrote, gave_up, turned, attends}
use Rattle.stream_host.specs.Conduct.{Conducted, MayRaise}
use Rattle.stream_host.specs.Ran.{SentNoMore}

-- ---- an alarm that was got stays got

more_replies : (rs : List Reply) (r : Reply) → list_any is_limit rs ≡ true → list_any is_limit (rs ++ r ∷ []) ≡ true
more_replies rs r e = list_any-append is_limit rs (r ∷ []) ∙ ap (λ b. b || list_any is_limit (r ∷ [])) e

pub alarm_stays : (later h : Journal) → has_limit h ≡ true → has_limit (later ++ h) ≡ true
alarm_stays [] h e = e
alarm_stays (at_port (got r) ∷ l) h e = more_replies (got_of (l ++ h)) r (alarm_stays l h e)
alarm_stays (_ ∷ l) h e = alarm_stays l h e

-- ---- nothing more is sent

-- a step that is only done before an alarm
calm_step : (later h : Journal) {A : Type 0} → has_limit h ≡ true → has_limit (later ++ h) ≡ false → A
calm_step later h alarm calm = absurd (let e = sym (alarm_stays later h alarm) ∙ calm in cc)

-- what is raised is a resume of the host's own
own_resume : (room : ℕ) (later h : Journal) (b : ℕ) → Conducted room (later ++ h) → has_limit h ≡ true → MayRaise b (later ++ h) → (t : Bool) → resumes_next (later ++ h) ≡ t → line_raises_of (later ++ h) ≡ line_raises_of h
    → cond t (line_raises_of (later ++ h)) (line_raises_of (later ++ h) ++ b ∷ []) ≡ line_raises_of h
own_resume room later h b c alarm may true e same = same
own_resume room later h b c alarm may false e same = calm_step later h alarm (may.calm e)

-- a step that leaves the job alone
pub sent_on : (h is now : Journal) → SentNoMore h is → SentNoMore is now → SentNoMore h now
sent_on h is now s t = record {
  read = t.read ∙ s.read;
  reading = t.reading ∙ s.reading;
  scanned = t.scanned ∙ s.scanned;
  lines = t.lines ∙ s.lines;
  stored = t.stored ∙ s.stored;
  marks = t.marks ∙ s.marks;
  raised = t.raised ∙ s.raised;
}

-- a host that has got an alarm has done something
some_end : (l h : Journal) → l ++ h ≡ [] → has_limit h ≡ true → ⊥
some_end [] [] none e = absurd cc
some_end [] (s ∷ h) none e = absurd cc
some_end (s ∷ l) h none e = absurd cc

pub sends_no_more : (room : ℕ) (later h : Journal) → Conducted room (later ++ h) → has_limit h ≡ true → SentNoMore h (later ++ h)
sends_no_more room [] h c e = record { read = refl; reading = refl; scanned = refl; lines = refl; stored = refl; marks = refl; raised = refl }
sends_no_more room (at_port (stored b) ∷ l) h c e = calm_step l h e c.0.calm
sends_no_more room (at_port (dropped b) ∷ l) h c e = absurd c.0
sends_no_more room (at_port marked ∷ l) h c e = calm_step l h e c.0.calm
sends_no_more room (at_port (raised b down) ∷ l) h c e =
    let s = sends_no_more room l h c.1 e in record {
      read = s.read;
      reading = s.reading;
      scanned = s.scanned;
      lines = s.lines;
      stored = s.stored;
      marks = s.marks;
      raised = own_resume room l h b c.1 e c.0 (resumes_next (l ++ h)) refl s.raised;
    }
sends_no_more room (at_port (got r) ∷ l) h c e =
    sent_on h (l ++ h) (at_port (got r) ∷ (l ++ h)) (sends_no_more room l h c.1 e) (record { read = refl; reading = refl; scanned = refl; lines = refl; stored = refl; marks = refl; raised = refl })
sends_no_more room (at_port no_reply ∷ l) h c e =
    sent_on h (l ++ h) (at_port no_reply ∷ (l ++ h)) (sends_no_more room l h c.1 e) (record { read = refl; reading = refl; scanned = refl; lines = refl; stored = refl; marks = refl; raised = refl })
sends_no_more room (at_port shut ∷ l) h c e =
    sent_on h (l ++ h) (at_port shut ∷ (l ++ h)) (sends_no_more room l h c.1 e) (record { read = refl; reading = refl; scanned = refl; lines = refl; stored = refl; marks = refl; raised = refl })
sends_no_more room (read_some bytes ∷ l) h c e = calm_step l h e c.0.0.calm
sends_no_more room (read_end ∷ l) h c e = calm_step l h e c.0.calm
sends_no_more room (read_failed ∷ l) h c e = calm_step l h e c.0.calm
sends_no_more room (scanned b ∷ l) h c e = calm_step l h e c.0.calm
sends_no_more room (line_over ∷ l) h c e = calm_step l h e c.0.calm
sends_no_more room (wrote n ∷ l) h c e =
    sent_on h (l ++ h) (wrote n ∷ (l ++ h)) (sends_no_more room l h c.1 e) (record { read = refl; reading = refl; scanned = refl; lines = refl; stored = refl; marks = refl; raised = refl })
sends_no_more room (gave_up ∷ l) h c e =
    sent_on h (l ++ h) (gave_up ∷ (l ++ h)) (sends_no_more room l h c.1 e) (record { read = refl; reading = refl; scanned = refl; lines = refl; stored = refl; marks = refl; raised = refl })
sends_no_more room (attends ∷ l) h c e = absurd (some_end l h c.0 e)
sends_no_more room (turned t ∷ l) h c e =
    sent_on h (l ++ h) (turned t ∷ (l ++ h)) (sends_no_more room l h c.1 e) (record { read = refl; reading = refl; scanned = refl; lines = refl; stored = refl; marks = refl; raised = refl })

-- ---- an alarm is no cause where the job gives one

-- a cause that the job gives stays
pub cause_of_job : (alarm : Bool) (n : ℕ) (stop : Stop) → (stop ≡ End → ⊥) → stop ≡ or_alarm alarm n stop
cause_of_job false n stop other = refl
cause_of_job true n End other = absurd (other refl)
cause_of_job true n (LongLine k) other = refl
cause_of_job true n TooLarge other = refl
cause_of_job true n (Alarm k) other = refl
