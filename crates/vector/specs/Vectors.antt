-- Vectors of three whole numbers: products, sums, ranges and the order of corner rows.
use Rattle.std.specs.Prelude.{ℕ, Bool, ◌&&◌, ◌||◌, ℤ, pos, ◌+ℤ◌, ◌-ℤ◌, ◌*ℤ◌, neg_ℤ, int_le, int_lt}
use Rattle.std.specs.Int.{int_min, int_max}
use Rattle.vector.specs.declared.Vector.{Vector}

abbrev pub vector : ℤ → ℤ → ℤ → Vector
vector a b c = record { x = a; y = b; z = c }

-- the product of a direction and a corner (dot product)
infixl 65 ◌·◌
abbrev pub ◌·◌ : Vector → Vector → ℤ
a · b = a.x *ℤ b.x +ℤ a.y *ℤ b.y +ℤ a.z *ℤ b.z

-- the cross product
infixl 66 ◌⨯◌
abbrev pub ◌⨯◌ : Vector → Vector → Vector
a ⨯ b = vector (a.y *ℤ b.z -ℤ a.z *ℤ b.y) (a.z *ℤ b.x -ℤ a.x *ℤ b.z) (a.x *ℤ b.y -ℤ a.y *ℤ b.x)

infixl 64 ◌+ᵛ◌ ◌-ᵛ◌
abbrev pub ◌+ᵛ◌ : Vector → Vector → Vector
a +ᵛ b = vector (a.x +ℤ b.x) (a.y +ℤ b.y) (a.z +ℤ b.z)

abbrev pub ◌-ᵛ◌ : Vector → Vector → Vector
a -ᵛ b = vector (a.x -ℤ b.x) (a.y -ℤ b.y) (a.z -ℤ b.z)

-- a number times a vector
infixr 67 ◌∗◌
abbrev pub ◌∗◌ : ℤ → Vector → Vector
k ∗ a = vector (k *ℤ a.x) (k *ℤ a.y) (k *ℤ a.z)

-- the opposite
abbrev pub negᵛ : Vector → Vector
negᵛ a = vector (neg_ℤ a.x) (neg_ℤ a.y) (neg_ℤ a.z)

abbrev pub 𝟎 : Vector
𝟎 = vector (pos 0) (pos 0) (pos 0)

-- two numbers are equal, as a test
abbrev pub eq_z : ℤ → ℤ → Bool
eq_z a b = int_le a b && int_le b a

abbrev pub is_zero : Vector → Bool
is_zero a = eq_z a.x (pos 0) && eq_z a.y (pos 0) && eq_z a.z (pos 0)

-- the order of corner rows: by x, then y, then z
abbrev pub precedes : Vector → Vector → Bool
precedes a b = int_lt a.x b.x || (eq_z a.x b.x && (int_lt a.y b.y || (eq_z a.y b.y && int_lt a.z b.z)))

-- each component is at most that of the other
abbrev pub at_most : Vector → Vector → Bool
at_most a b = int_le a.x b.x && int_le a.y b.y && int_le a.z b.z

-- the lesser, and the greater, in each component
abbrev pub least_of : Vector → Vector → Vector
least_of a b = vector (int_min a.x b.x) (int_min a.y b.y) (int_min a.z b.z)

abbrev pub greatest_of : Vector → Vector → Vector
greatest_of a b = vector (int_max a.x b.x) (int_max a.y b.y) (int_max a.z b.z)

-- a number is from -m to m
abbrev pub inside : ℕ → ℤ → Bool
inside m a = int_le (neg_ℤ (pos m)) a && int_le a (pos m)

-- each component is from -m to m
abbrev pub within : ℕ → Vector → Bool
within m a = inside m a.x && inside m a.y && inside m a.z
