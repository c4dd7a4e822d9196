-- How the logs of a host's port and of a board's agree, where their ends are tied.
use Rattle.std.proofs.Common.{◌≡◌, ℕ, Bool, true, List, [], ◌∷◌, ◌++◌, length, reverse, sym, ap, ◌∙◌, refl, subst, arith, length-append}
use Rattle.std.proofs.lemmas.List.{reverse-append}
use Rattle.status_report.specs.declared.Reply.{Reply}
use Rattle.realtime_flags.specs.declared.words.Raise.{Raise}
use Rattle.serial_ring.specs.declared.view.LinkStep.{LinkStep}
use Rattle.serial_ring.specs.Lists.{AreAtMost}
use Rattle.serial_ring.specs.Logs.{taken_in, marked_in}
use Rattle.serial_ring.specs.Marks.{Mark, AreMarks}
use Rattle.serial_ring.specs.Rule.{AreTied}
use Rattle.host_journal.specs.Ports.{PortsAgree}
use Rattle.host_journal.specs.Steps.{HostLog}
use Rattle.link_ports.specs.Hosts.{HostDid}

none_before : {A : Type 0} (xs ys : List A) → ys ≡ xs ++ ys → xs ≡ []
none_before [] ys e = refl
none_before (x ∷ xs) ys e = absurd (let n = ap length e ∙ length-append (x ∷ xs) ys in omega arith)

pub ports_agree : (room : ℕ) (bytes marks : List ℕ) (closed : Bool) (log : List LinkStep) (over : Bool) (replies : List Reply) (greeted : List Mark) (raises : List Raise) (moments : List ℕ) (h : HostLog) (known : Bool)
    → HostDid bytes marks closed replies greeted raises moments h → (known ≡ true → over ≡ true) → AreTied room bytes marks closed log over replies greeted moments → PortsAgree h log known
ports_agree room bytes marks closed log over replies greeted raises moments h known d is t = record {
  unread = reverse t.unread;
  bytes = d.bytes_are ∙ (ap reverse t.bytes ∙ reverse-append t.unread (taken_in log));
  closes = λ o. d.shut_is ∙ t.closes (is o);
  all = λ o. ap reverse (none_before t.unread (taken_in log) (sym (t.all_bytes (is o)) ∙ t.bytes));
  loads = subst (λ (ms : List ℕ). AreMarks ms (marked_in log)) (sym d.marks_are) t.loads;
  well = t.well;
  untaken = t.untaken;
  replies = t.replies ∙ ap (λ (rs : List Reply). t.untaken ++ rs) (sym d.latest_are);
  ungreeted = t.ungreeted;
  greeted = greeted;
  banners = t.banners;
  are = d.greeted_are;
  ungot = t.later;
  of_got = t.of_got;
  moments = t.taken_then;
  in_time = subst (AreAtMost t.of_got) (sym d.moments_are) t.in_time;
}
