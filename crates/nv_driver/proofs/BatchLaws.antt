-- Requests one at a time: their answers, the state after them, and those of a list of requests.
use Rattle.nv_driver.proofs.Words.{[], ℕ, ◌%◌, ◌++◌, ◌+◌, ◌<◌, ◌∙◌, ◌∷◌, ◌≡◌, ◌≤◌, Answer, List, Numbered, Request}
use Rattle.nv_driver.proofs.Words.{Sent, State, add-one, after, answers_of_all, answers_to, ap, arith, cid_after}
use Rattle.nv_driver.proofs.Words.{from_cid, get_or, length, length-map, map, mod_below, numbered, numbered_request}
use Rattle.nv_driver.proofs.Words.{received_as, refl, state_after_all, step_after, step_of, suc, sym, take, take-map}
use Rattle.nv_driver.proofs.Words.{take-take, zero}

-- ---- requests that were sent

-- there are as many answers as numbered requests
pub length-answers_of_all : (c : ℕ) (s : State) (xs : List Numbered) → length (answers_of_all c s xs) ≡ length xs
length-answers_of_all c s [] = refl
length-answers_of_all c s (x ∷ xs) = ap suc (length-answers_of_all c (step_of c s x).state xs)

-- there are as many answers as requests that were sent
pub length-answers : (c : ℕ) (s : State) (xs : List Sent) → length (answers_to c s xs) ≡ length xs
length-answers c s xs = length-answers_of_all c s (map numbered xs) ∙ length-map xs numbered

-- the answers to xs ++ ys are the answers to xs and then the answers to ys after xs
pub answers-append : (c : ℕ) (s : State) (xs ys : List Sent)
    → answers_to c s (xs ++ ys) ≡ answers_to c s xs ++ answers_to c (after c s xs) ys
answers-append c s [] ys = refl
answers-append c s (x ∷ xs) ys =
    let one = step_of c s (numbered x) in
    ap (λ rest. received_as x.request.asked one.answer ∷ rest) (answers-append c one.state xs ys)

-- the state after the first n requests and one more is the state after the step of request n
after-suc : (c : ℕ) (s : State) (xs : List Sent) (n : ℕ) (d : Sent) → n < length xs
    → after c s (take (suc n) xs) ≡ (step_after c s xs n (get_or xs n d)).state
after-suc c s [] n d h = absurd (omega arith)
after-suc c s (x ∷ []) zero d h = refl
after-suc c s (x ∷ (y ∷ xs)) zero d h = refl
after-suc c s (x ∷ xs) (suc n) d h = after-suc c (step_of c s (numbered x)).state xs n d (omega arith)

-- the state after n + 1 requests is the state after the step of request n
pub after_more : (c : ℕ) (s : State) (xs : List Sent) (n : ℕ) (d : Sent) → n < length xs
    → after c s (take (n + 1) xs) ≡ (step_after c s xs n (get_or xs n d)).state
after_more c s xs n d h = ap (λ k. after c s (take k xs)) (add-one n) ∙ after-suc c s xs n d h

-- the answer to request n is that of its step after the requests before it
pub answer_at : (c : ℕ) (s : State) (xs : List Sent) (n : ℕ) (d : Sent) (e : Answer) → n < length xs
    → get_or (answers_to c s xs) n e ≡ received_as (get_or xs n d).request.asked
    (step_after c s xs n (get_or xs n d)).answer
answer_at c s [] n d e h = absurd (omega arith)
answer_at c s (x ∷ xs) zero d e h = refl
answer_at c s (x ∷ xs) (suc n) d e h = answer_at c (step_of c s (numbered x)).state xs n d e (omega arith)

-- ---- command identifiers

-- the command identifier after n more ones is followed by the one after n + 1
pub cid_next : (next_cid n : ℕ) → cid_after ((next_cid + n) % 65535) ≡ (next_cid + (n + 1)) % 65535
cid_next next_cid n = omega arith

-- ---- the requests of a run

-- element n of the numbered requests is request n with the command identifier that is n further
pub request_at : (next_cid n : ℕ) (qs : List Request) (d : Numbered) (e : Request) → next_cid < 65535 → n < length qs
    → get_or (from_cid next_cid qs) n d ≡ numbered_request (get_or qs n e) ((next_cid + n) % 65535)
request_at next_cid n [] d e below inside = absurd (omega arith)
request_at next_cid zero (q ∷ qs) d e below inside =
    let first : next_cid ≡ (next_cid + 0) % 65535 = omega arith in ap (numbered_request q) first
request_at next_cid (suc n) (q ∷ qs) d e below inside =
    let same : (cid_after next_cid + n) % 65535 ≡ (next_cid + suc n) % 65535 = omega arith in
    request_at (cid_after next_cid) n qs d e (mod_below (next_cid + 1) 65535 (omega arith)) (omega arith)
    ∙ ap (numbered_request (get_or qs n e)) same

-- there are as many numbered requests as requests
pub length-from_cid : (next_cid : ℕ) (qs : List Request) → length (from_cid next_cid qs) ≡ length qs
length-from_cid next_cid [] = refl
length-from_cid next_cid (q ∷ qs) = ap suc (length-from_cid (cid_after next_cid) qs)

-- the first n numbered requests are the first n requests, numbered
take-from_cid : (n next_cid : ℕ) (qs : List Request) → take n (from_cid next_cid qs) ≡ from_cid next_cid (take n qs)
take-from_cid (suc n) next_cid (q ∷ qs) =
    ap (λ xs. numbered_request q next_cid ∷ xs) (take-from_cid n (cid_after next_cid) qs)
take-from_cid n next_cid qs = refl

-- the first n answers are the answers to the first n requests
take-answers : (n c : ℕ) (s : State) (xs : List Numbered)
    → take n (answers_of_all c s xs) ≡ answers_of_all c s (take n xs)
take-answers (suc n) c s (x ∷ xs) =
    ap (λ ys. received_as x.asked (step_of c s x).answer ∷ ys) (take-answers n c (step_of c s x).state xs)
take-answers n c s xs = refl

-- the requests that were sent are the first m of a list
module _ (next_cid : ℕ) (qs : List Request) (xs : List Sent) (m : ℕ)
    (are : map numbered xs ≡ take m (from_cid next_cid qs)) where
  -- the first n that were sent are the first n of the list
  first_are : (n : ℕ) → n ≤ m → take n (map numbered xs) ≡ take n (from_cid next_cid qs)
  first_are n few = ap (take n) are ∙ take-take n m (from_cid next_cid qs) few

  -- they leave the same state
  pub state_is : (c : ℕ) (s : State) (n : ℕ) → n ≤ m
      → after c s (take n xs) ≡ state_after_all c s (from_cid next_cid (take n qs))
  state_is c s n few =
      ap (state_after_all c s) (sym (take-map numbered n xs) ∙ first_are n few ∙ take-from_cid n next_cid qs)

  -- they get the same answers
  pub answers_are : (c : ℕ) (s : State) (n : ℕ) → n ≤ m
      → take n (answers_to c s xs) ≡ take n (answers_of_all c s (from_cid next_cid qs))
  answers_are c s n few =
      take-answers n c s (map numbered xs) ∙ ap (answers_of_all c s) (first_are n few)
      ∙ sym (take-answers n c s (from_cid next_cid qs))
