-- Marks that are loaded.
use Rattle.std.proofs.Common.{◌≡◌, ◌≢◌, ℕ, ◌+◌, ◌^◌, ◌<◌, ◌≤◌, List, [], ◌∷◌, length, set, refl, ap, ◌∙◌, inl, inr, ⊎_elim, arith}
use Rattle.std.proofs.lemmas.List.{get_or-set_same, get_or-set_other}
use Rattle.serial_ring.specs.Rule.{Marks, mark_word, all_words}
use Rattle.serial_ring.specs.Marks.{Mark, start, latest, AreRising, IsMark, AreMarks, last_of, MarkedPast, packed, number_in, bytes_in}

pub start_is : (marks : List ℕ) → IsMark marks start
start_is [] = refl
start_is (bytes ∷ earlier) = inr (start_is earlier)

pub none_yet : (marks : List ℕ) → length marks ≡ 0 → latest marks ≡ 0
none_yet [] e = refl
none_yet (bytes ∷ earlier) e = absurd (omega arith)

-- the latest one
pub latest_is : (marks : List ℕ) → IsMark marks (length marks, latest marks)
latest_is [] = refl
latest_is (bytes ∷ earlier) = inl (let e : length (bytes ∷ earlier) ≡ length earlier + 1 = omega arith in ap (λ n. (n, bytes)) e)

-- none is behind the latest
pub mark_within : (marks : List ℕ) (m : Mark) → AreRising marks → IsMark marks m → (m.0 ≤ length marks) × (m.1 ≤ latest marks)
mark_within [] m rising is = (let e = ap (λ (k : Mark). k.0) is in omega arith, let e = ap (λ (k : Mark). k.1) is in omega arith)
mark_within (bytes ∷ earlier) m rising is = ⊎_elim
    (λ e. (let n = ap (λ (k : Mark). k.0) e in omega arith, let n = ap (λ (k : Mark). k.1) e in omega arith))
    (λ before. let w = mark_within earlier m rising.1 before in let r = rising.0 in (omega arith, omega arith))
    is

-- one more is stored
pub more_marks : (bytes : ℕ) (marks : List ℕ) (loaded : List Mark) → AreMarks marks loaded → AreMarks (bytes ∷ marks) loaded
more_marks bytes marks [] are = tt
more_marks bytes marks (m ∷ earlier) are = (inr are.0, more_marks bytes marks earlier are.1)

pub last_is : (marks : List ℕ) (loaded : List Mark) → AreMarks marks loaded → IsMark marks (last_of loaded)
last_is marks [] are = start_is marks
last_is marks (m ∷ earlier) are = are.0

-- a mark that was loaded has no more bytes than were stored before the latest
pub past_below : (n : ℕ) (marks : List ℕ) (loaded : List Mark) → AreRising marks → AreMarks marks loaded → MarkedPast n loaded → n < latest marks
past_below n marks [] rising are past = absurd past
past_below n marks (m ∷ earlier) rising are past = ⊎_elim
    (λ lt. let w = mark_within marks m rising are.0 in omega arith)
    (λ before. past_below n marks earlier rising are.1 before)
    past

-- a mark is read back from its word
pub number_back : (number bytes : ℕ) → bytes < 2 ^ 32 → number_in (packed number bytes) ≡ number
number_back number bytes few = omega arith

pub bytes_back : (number bytes : ℕ) → bytes < 2 ^ 32 → bytes_in (packed number bytes) ≡ bytes
bytes_back number bytes few = omega arith

-- ---- the marks through each step

-- another word changes
pub marks_stay : (words stored marks : List ℕ) → Marks words stored marks → (i x : ℕ) → mark_word ≢ i → Marks (set words i x) stored marks
marks_stay words stored marks m i x apart = record {
  within = m.within;
  rising = m.rising;
  few = m.few;
  word = get_or-set_other words i mark_word x 0 apart ∙ m.word;
}

-- a byte more is stored
pub marks_stored : (words stored marks : List ℕ) (b : ℕ) → Marks words stored marks → Marks words (b ∷ stored) marks
marks_stored words stored marks b m = record {
  within = (let w = m.within in omega arith);
  rising = m.rising;
  few = m.few;
  word = m.word;
}

-- a mark more is stored
pub marks_set : (words stored marks : List ℕ) (new : ℕ) → Marks words stored marks → length words ≡ all_words → length marks + 1 < 2 ^ 32 → new ≡ packed (length marks + 1) (length stored)
    → Marks (set words mark_word new) stored (length stored ∷ marks)
marks_set words stored marks new m wide few is = record {
  within = omega arith;
  rising = (m.within, m.rising);
  few = omega arith;
  word = get_or-set_same words mark_word new 0 (omega arith) ∙ (let e : new ≡ packed (length (length stored ∷ marks)) (length stored) = omega arith in e);
}
