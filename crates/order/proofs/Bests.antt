-- The best by an order of those that have a property, and of the members of a row.
use Rattle.std.proofs.Common.{◌≡◌, zero, suc, ◌⊎◌, List, [], ◌∷◌, ◌++◌, length, Some, None, Option, sym, ap, ◌∙◌, map-id, subst, inl, inr, arith, rules}
use denote.Param.Members.{Mut}
use Rattle.std.specs.Fn.{Called}
use Rattle.std.specs.Iterator.{ReducesItems, Drains}
use Rattle.std.specs.List.{Contains, flat_map}
use Rattle.std.specs.Option.{option_to_list}
use Rattle.std.proofs.lemmas.Fn.{fold_same}
use Rattle.std.proofs.lemmas.Iterator.{YieldsList, items_from_drains}
use Rattle.std.proofs.lemmas.List.Elements.{Contains-append_left, Contains-push, Contains-push_cases, Contains-append_right}
use Rattle.order.specs.Order.{In, Foremost, Picked, Nearer}

-- the laws of a strict total order
pub record IsOrder {A : Type 0} (before : A → A → Type 0) : Type 0 where
  pub irreflexive : (x : A) → before x x → ⊥
  pub transitive : (x y z : A) → before x y → before y z → before x z
  pub total : (x y : A) → (before x y → ⊥) → (before y x → ⊥) → x ≡ y

-- the members of a row
abbrev pub members : {A : Type 0} → List (Option A) → List A
members row = flat_map (λ place. option_to_list place) row

pub cons_cases : {A : Type 0} (x : A) (xs : List A) (y : A) → Contains (x ∷ xs) y → Contains xs y ⊎ (x ≡ y)
cons_cases x xs y (zero, within, is) = inr is
cons_cases x xs y (suc k, within, is) = inl (k, omega arith, is)

members_has : {A : Type 0} (row : List (Option A)) (x : A) → In row x → Contains (members row) x
members_has [] x i = search rules
members_has (None ∷ row) x (zero, within, is) = search rules
members_has (None ∷ row) x (suc k, within, is) = let i = members_has row x in search rules
members_has (Some y ∷ row) x (zero, within, is) = search rules
members_has (Some y ∷ row) x (suc k, within, is) = Contains-append_right (y ∷ []) _ x (members_has row x (k, omega arith, is))

row_has : {A : Type 0} (row : List (Option A)) (x : A) → Contains (members row) x → In row x
row_has [] x i = search rules
row_has (None ∷ row) x i = let j = row_has row x i in (suc j.0, omega (arith, j.1), j.2)
row_has (Some y ∷ row) x (zero, within, is) = (0, omega arith, ap Some is)
row_has (Some y ∷ row) x (suc k, within, is) = let j = row_has row x (k, omega arith, is) in (suc j.0, omega (arith, j.1), j.2)

drained : {S A : Type 0} {steps : S → Option A → S → Type 0} {s : S} {xs : List A} (ys : List A) → Drains steps s ys → YieldsList steps (λ x. x) s xs → ys ≡ xs
drained ys (u, (t, yields, last)) road = sym (map-id ys) ∙ items_from_drains ys (t, yields, λ _. (u, last)) road

module _ {A : Type 0} (before : A → A → Type 0) where
  -- r is a best one of those that have P
  abbrev pub Best : (A → Type 0) → Option A → Type 0
  Best P None = (x : A) → P x → ⊥
  Best P (Some m) = P m × ((x : A) → P x → before x m → ⊥)

  pub foremost_of : (row : List (Option A)) (m : A) → Best (Contains (members row)) (Some m) → Foremost before row m
  foremost_of row m b = record { member = row_has row m b.0; first = λ x i. b.1 x (members_has row x i) }

  pub none_of : (row : List (Option A)) → Best (Contains (members row)) None → (x : A) → In row x → ⊥
  none_of row b x i = b x (members_has row x i)

module _ {A : Type 0} {before : A → A → Type 0} (order : IsOrder before) where
  -- the best member is what is picked of the row
  picked_of : (row : List (Option A)) (r : Option A) → Best before (Contains (members row)) r → Picked before row r
  picked_of row None b = none_of before row b
  picked_of row (Some m) b = let f = foremost_of before row m b in record { is = f; only = λ n g. order.total n m (f.first n g.member) (g.first m f.member) }

  -- one more that has Q, beside those that have P
  module _ {P Q : A → Type 0} (x : A) (here : Q x) (either : (y : A) → Q y → P y ⊎ (x ≡ y)) where
    pub best_begun : Best before P None → Best before Q (Some x)
    best_begun b = search (rules, order.irreflexive, b, either)

    pub best_more : ((y : A) → P y → Q y) → (m r : A) → Nearer before m x r → Best before P (Some m) → Best before Q (Some r)
    best_more there m r n b = search (rules, order.irreflexive, order.transitive, either)

  -- a pass that keeps the nearer one keeps the best
  module _ {F S : Type 0} {g : Mut F (A × (A × Unit {0})) A} (f : F) {steps : S → Option A → S → Type 0} (s : S) (keeps : (m x r : A) (q : F) → Called g f (m, (x, tt)) r q → (q ≡ f) × Nearer before m x r) where
    best_from_reduce : (xs : List A) (r : Option A) → YieldsList steps (λ x. x) s xs → ReducesItems steps g s f r → Best before (Contains xs) r
    best_from_reduce xs None road none = let e = drained [] none road in λ x i. omega (arith, i.1, ap length e)
    best_from_reduce xs (Some m) road (x, ys, q, drains, turns) =
        let whole = drained (x ∷ ys) drains road in
        let IsBest : List A → A → Type 0 = λ zs n. Best before (Contains (x ∷ zs)) (Some n) in
        let first : IsBest [] x = search (rules, order.irreflexive, cons_cases x []) in
        let turn : (zs : List A) (n y r : A) (p : F) → IsBest zs n → Called g f (n, (y, tt)) r p → IsBest (zs ++ y ∷ []) r × (p ≡ f) = λ zs n y r p b call.
        (best_more y (Contains-push (x ∷ zs) y) (Contains-push_cases (x ∷ zs) y) (Contains-append_left (x ∷ zs) (y ∷ [])) n r (keeps n y r p call).1 b, (keeps n y r p call).0) in
        subst (λ zs. Best before (Contains zs) (Some m)) whole (fold_same g IsBest f turn ys x m q first turns)

    pub picked_from_reduce : (row : List (Option A)) (r : Option A) → YieldsList steps (λ x. x) s (members row) → ReducesItems steps g s f r → Picked before row r
    picked_from_reduce row r road ran = picked_of row r (best_from_reduce (members row) r road ran)
