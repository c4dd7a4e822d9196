-- Two ends of one link that are brought together.
use Rattle.std.proofs.Common.{◌≡◌, ℕ, ◌+◌, ◌-◌, take, drop, Bool, true, List, [], ◌∷◌, ◌++◌, length, reverse, length-append, refl, sym, ap, ◌∙◌, subst, arith}
use Rattle.std.proofs.lemmas.List.{reverse-append, take-append-drop}
use Rattle.serial_ring.specs.declared.view.LinkStep.{LinkStep}
use Rattle.serial_ring.specs.Logs as link
use Rattle.serial_ring.specs.Logs.{marked_in, taken_at_banners}
use Rattle.serial_ring.specs.Lists.{AreAtMost}
use Rattle.serial_ring.specs.Marks.{Mark, AreMarks}
use Rattle.serial_ring.specs.Rule.{AreTied}
use Rattle.status_report.specs.declared.Reply.{Reply}
use Rattle.host_journal.specs.Ports.{PortsAgree}
use Rattle.host_journal.specs.Steps as hosts
use Rattle.board_journal.specs.Ports as ports
use Rattle.board_journal.proofs.LinkSteps.{taken_back, answered_back}
use Rattle.board_epochs.specs.Epochs.{Epochs, log_of}
use Rattle.epoch_links.specs.Drops.{AreAnsweredOver}
use Rattle.epoch_links.proofs.Answers.{same_got}
use Rattle.epoch_links.specs.Links.{AreLastAtMost, AreLinkedOver, EndsHave}

none_before : (xs ys : List ℕ) → ys ≡ xs ++ ys → xs ≡ []
none_before [] ys e = refl
none_before (x ∷ xs) ys e = absurd (let n = ap length e ∙ length-append (x ∷ xs) ys in omega arith)

module _ (room : ℕ) (stored marks : List ℕ) (closed : Bool) (log : List LinkStep) (over : Bool) (got : List Reply) (greeted : List Mark) (moments : List ℕ) (host : hosts.Journal) (r : Epochs)
    (t : AreTied room stored marks closed log over got greeted moments) (e : EndsHave stored marks closed log over got moments host r) where
  pub ends_linked : AreLinkedOver host r
  ends_linked = record {
    rest = reverse t.unread;
    front =
        e.stored_are ∙ ap (λ (bytes : List ℕ). reverse bytes) t.bytes ∙ reverse-append t.unread (link.taken_in log)
        ∙ ap (λ (steps : List LinkStep). reverse (link.taken_in steps) ++ reverse t.unread) (sym e.steps_are) ∙ ap (λ (bytes : List ℕ). bytes ++ reverse t.unread) (sym (taken_back (log_of r)));
    closes = λ found. e.shut_is ∙ t.closes (e.over_is found);
    all = λ found. ap (λ (bytes : List ℕ). reverse bytes) (none_before t.unread (link.taken_in log) (sym (t.all_bytes (e.over_is found)) ∙ t.bytes));
    loads = subst (λ (z : List ℕ × List LinkStep). AreMarks z.0 (marked_in z.1)) (λ i. (sym e.marks_are i, sym e.steps_are i)) t.loads;
    ungot = t.later;
    of_got = t.of_got;
    banners = ap taken_at_banners e.steps_are ∙ t.taken_then;
    in_time = subst (AreAtMost t.of_got) (sym e.moments_are) t.in_time;
  }

  pub ends_answered : AreAnsweredOver host r
  ends_answered = record {
    rest = reverse t.untaken;
    is =
        answered_back (log_of r) ∙ ap (λ (steps : List LinkStep). reverse (link.answered_in steps)) e.steps_are ∙ ap (λ (rs : List Reply). reverse rs) t.replies
        ∙ reverse-append t.untaken got ∙ ap (λ (rs : List Reply). rs ++ reverse t.untaken) (sym e.got_are);
  }

-- ---- a link that is plain lists

pub lists_linked : (host : hosts.Journal) (r : Epochs) (waiting : List ℕ) → hosts.stored_of host ≡ ports.taken_in (log_of r) ++ waiting → (ports.has_closed_in (log_of r) ≡ true → (hosts.is_shut host ≡ true) × (waiting ≡ []))
    → AreMarks (hosts.marks_of host) (marked_in (ports.link_steps (log_of r))) → AreLastAtMost (taken_at_banners (ports.link_steps (log_of r))) (hosts.stored_at_banners (hosts.port_log host)) → AreLinkedOver host r
lists_linked host r waiting front found loads in_time =
    let moments = taken_at_banners (ports.link_steps (log_of r)) in
    let n = length moments - length (hosts.stored_at_banners (hosts.port_log host)) in
    record {
      rest = waiting;
      front = front;
      closes = λ over. (found over).0;
      all = λ over. (found over).1;
      loads = loads;
      ungot = take n moments;
      of_got = drop n moments;
      banners = sym (take-append-drop n moments);
      in_time = in_time;
    }

-- ---- two ports that agree

module _ (host : hosts.Journal) (r : Epochs) (a : PortsAgree (hosts.port_log host) (ports.link_steps (log_of r)) (ports.has_closed_in (log_of r))) where
  pub ports_linked : AreLinkedOver host r
  ports_linked = record {
    rest = a.unread;
    front = a.bytes ∙ ap (λ (bytes : List ℕ). bytes ++ a.unread) (sym (taken_back (log_of r)));
    closes = a.closes;
    all = a.all;
    loads = a.loads;
    ungot = a.ungot;
    of_got = a.of_got;
    banners = a.moments;
    in_time = a.in_time;
  }

  pub ports_answered : AreAnsweredOver host r
  ports_answered = record {
    rest = reverse a.untaken;
    is =
        answered_back (log_of r) ∙ (ap (λ (rs : List Reply). reverse rs) a.replies ∙ (reverse-append a.untaken (hosts.latest_got (hosts.port_log host))
        ∙ ap (λ (rs : List Reply). rs ++ reverse a.untaken) (sym (same_got (hosts.port_log host)))));
  }
