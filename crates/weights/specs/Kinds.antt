-- The two kinds of weights that come with the product.
use Rattle.std.specs.Prelude.{ℕ, ◌+◌, ◌-◌, min, max, nat_lt}
use Rattle.weights.specs.Weights.{Ops, weights_end}

-- whether a frame is emitted at all: 0 is no, 1 is yes
abbrev pub reach_ops : Ops
reach_ops =
    record {
      is = λ a. nat_lt a 2;
      zero = 0;
      one = 1;
      join = λ a b. max a b;
      times = λ a b. min a b;
      cost = λ n. 1;
    }

-- the greatest number that is a weight: as a cost it says that the frame is not emitted
abbrev pub top : ℕ
top = weights_end - 1

-- the least cost at which a frame is emitted; costs along a way add up, and stop at the top
abbrev pub cost_ops : Ops
cost_ops =
    record {
      is = λ a. nat_lt a weights_end;
      zero = top;
      one = 0;
      join = λ a b. min a b;
      times = λ a b. min (a + b) top;
      cost = λ n. n;
    }
